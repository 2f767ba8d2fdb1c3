-- `form_read::second` meets its contract. Assumes nothing.
use Rattle.slip_moves.specs.Moves.{ends_size}
use Rattle.form_read.specs.Places.{second_in}
use borrow.Author.Tests.{eq-eqb, ne_eqb}
use mathlib.Core.Path.{sym}
use native.Mathlib.Omega.{arith}
use Rattle.form_read.proofs.second.Goals as goal

pub returns-then-s-i-eq0 : goal.returns-then-s-i-eq0
unfolding second_in
returns-then-s-i-eq0 c = rw (eq-eqb _ _ c.if-s-i-eq0.true)

pub double_at-requires : goal.double_at-requires
unfolding ends_size
double_at-requires c = let whole = rw (ne_eqb _ _ c.if-s-i-eq0.false) at c.requires.0.fits in omega (arith, whole, c.requires.1)

pub returns : goal.returns
unfolding second_in
returns c = rw (ne_eqb _ _ c.if-s-i-eq0.false, sym c.requires.0.ends) c.double_at.ensures
