-- `slip::second` meets its contract. Assumes nothing.
use native.Mathlib.Omega.{arith}
use borrow.Author.Tests.{eq-eqb, ne_eqb}
use Rattle.slip.specs.Format.{piece_size, second_double_at}
use Rattle.slip.proofs.second.Goals as goal

pub returns-then-s-i-eq0 : goal.returns-then-s-i-eq0
unfolding second_double_at
returns-then-s-i-eq0 c =
    rw (eq-eqb _ _ c.if-s-i-eq0.true)

pub double_at-requires : goal.double_at-requires
unfolding piece_size
double_at-requires c =
    let whole = rw (ne_eqb _ _ c.if-s-i-eq0.false) at c.requires.1.1 in omega (arith, whole)

pub returns : goal.returns
unfolding second_double_at
returns c =
    rw (ne_eqb _ _ c.if-s-i-eq0.false) c.double_at.ensures
