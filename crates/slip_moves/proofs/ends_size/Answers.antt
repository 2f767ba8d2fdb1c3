-- `slip_moves::ends_size` meets its contract. Assumes nothing.
use Rattle.slip_moves.specs.Moves.{ends_size}
use borrow.Author.Tests.{eq-eqb, ne_eqb}
use borrow.Author.Rules.{rules}
use Rattle.slip_moves.proofs.ends_size.Goals as goal

pub returns-then-kind-eq0 : goal.returns-then-kind-eq0
unfolding ends_size
returns-then-kind-eq0 c = rw (eq-eqb _ _ c.if-kind-eq0.true) (search rules)

pub returns : goal.returns
unfolding ends_size
returns c = rw (ne_eqb _ _ c.if-kind-eq0.false) (search rules)
