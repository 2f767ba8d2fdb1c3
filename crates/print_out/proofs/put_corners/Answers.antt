-- `print_out::put_corners` meets its contract. Assumes nothing.
use Rattle.print_out.specs.PrintOut.{corner_lines}
use Rattle.text_out.proofs.Puts.{puts_none, puts_then, puts_length}
use mathlib.Core.Path.{◌≡◌, refl, ◌∙◌}
use native.Mathlib.Omega.{arith}
use native.Mathlib.Numerals.{add-one}
use Rattle.print_out.proofs.put_corners.Goals as goal

pub loop-k-init : goal.loop-k-init
unfolding corner_lines
loop-k-init c = (omega arith, (omega arith, (refl, puts_none _ _)))

pub loop-k-preserved : goal.loop-k-preserved
unfolding corner_lines
loop-k-preserved c =
    let line = rw c.read_f64-x.ensures at c.put_corner-at.ensures.0 in
    (omega arith, (omega (arith, c.put_corner-at.ensures.1), (puts_length line ∙ c.loop-k.invariant.1.1.0, rw add-one (puts_then c.loop-k.invariant.1.1.1 line))))

pub returns : goal.returns
returns c =
    let a = c.args in
    let e : c.loop-k.k ≡ a.n = omega (arith, c.loop-k-test.false, c.loop-k.invariant.0) in (rw e at c.loop-k.invariant.1.1.1, omega (arith, e, c.loop-k.invariant.1.0))
