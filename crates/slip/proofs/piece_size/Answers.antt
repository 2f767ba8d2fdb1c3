-- `slip::piece_size` meets its contract. Assumes nothing.
use mathlib.Core.Path.{refl}
use native.Mathlib.Omega.{arith}
use borrow.Author.Tests.{eq-eqb, ne_eqb}
use Rattle.slip.specs.Format.{piece_size}
use Rattle.slip.proofs.piece_size.Goals as goal

pub returns-then-kind-eq0 : goal.returns-then-kind-eq0
unfolding piece_size
returns-then-kind-eq0 c =
    rw (eq-eqb _ _ c.if-kind-eq0.true) (refl, (omega arith, omega arith))

pub returns : goal.returns
unfolding piece_size
returns c =
    rw (ne_eqb _ _ c.if-kind-eq0.false) (refl, (omega arith, omega arith))
