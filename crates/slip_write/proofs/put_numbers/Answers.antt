-- `slip_write::put_numbers` meets its contract. Assumes nothing.
use Rattle.slip_write.proofs.Lengths.{length_number}
use Rattle.slip_write.specs.Write.{numbers_bytes}
use Rattle.text_out.proofs.Puts.{puts_none, puts_then, puts_length}
use lib.ListN.{length, get_or}
use mathlib.Core.Path.{◌≡◌, refl, ◌∙◌}
use native.Mathlib.Omega.{arith}
use native.Mathlib.Numerals.{add-one}
use Rattle.slip_write.proofs.put_numbers.Goals as goal

pub loop-x-init : goal.loop-x-init
unfolding numbers_bytes
loop-x-init c = (omega arith, (refl, puts_none _ _))

pub loop-x-preserved : goal.loop-x-preserved
unfolding numbers_bytes
loop-x-preserved c =
    let a = c.args in
    let put = c.put_number-at.ensures in
    (omega (arith, put.ends, length_number (get_or a.xs.now c.loop-x.x-index 0), c.loop-x.invariant.0), (puts_length put ∙ c.loop-x.invariant.1.0, rw add-one (puts_then c.loop-x.invariant.1.1 put)))

pub returns : goal.returns
returns c =
    let a = c.args in
    let e : c.loop-x.x-index ≡ length a.xs.now = omega (arith, c.loop-x-test.false) in (rw e at c.loop-x.invariant.1.1, omega (arith, e, c.loop-x.invariant.0))
