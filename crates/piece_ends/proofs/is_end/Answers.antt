-- `piece_ends::is_end` meets its contract. Assumes nothing.
use mathlib.Core.Path.{refl}
use borrow.Author.Tests.{lt-ltb, le-ltb, eq-eqb, ne_eqb}
use Rattle.piece_ends.specs.Ends.{is_end}
use Rattle.piece_ends.proofs.is_end.Goals as goal

pub returns-then-e-eq0 : goal.returns-then-e-eq0
unfolding is_end
returns-then-e-eq0 c = rw (lt-ltb _ _ c.if-i-kinds.true, eq-eqb _ _ c.if-e-eq0.true) refl

pub returns-then-kinds-i-eq0 : goal.returns-then-kinds-i-eq0
unfolding is_end
returns-then-kinds-i-eq0 c = rw (lt-ltb _ _ c.if-i-kinds.true, ne_eqb _ _ c.if-e-eq0.false, eq-eqb _ _ c.if-kinds-i-eq0.true) refl

pub returns-then-i-kinds : goal.returns-then-i-kinds
unfolding is_end
returns-then-i-kinds c = rw (lt-ltb _ _ c.if-i-kinds.true, ne_eqb _ _ c.if-e-eq0.false, ne_eqb _ _ c.if-kinds-i-eq0.false) refl

pub returns : goal.returns
unfolding is_end
returns c = rw (le-ltb _ _ c.if-i-kinds.false) refl
