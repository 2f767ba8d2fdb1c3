-- `slip_write::put_doubles` meets its contract. Assumes nothing.
use Rattle.slip_write.proofs.Lengths.{length_double}
use Rattle.slip_write.specs.Write.{doubles_bytes}
use Rattle.text_out.proofs.Puts.{puts_none, puts_then, puts_length}
use lib.Ieee.{nan}
use lib.ListN.{length, get_or}
use mathlib.Core.Path.{◌≡◌, refl, ◌∙◌}
use native.Mathlib.Omega.{arith}
use native.Mathlib.Numerals.{add-one}
use Rattle.slip_write.proofs.put_doubles.Goals as goal

pub loop-x-init : goal.loop-x-init
unfolding doubles_bytes
loop-x-init c = (omega arith, (refl, puts_none _ _))

pub loop-x-preserved : goal.loop-x-preserved
unfolding doubles_bytes
loop-x-preserved c =
    let a = c.args in
    let put = c.put_double-at.ensures in
    (omega (arith, put.ends, length_double (get_or a.xs.now c.loop-x.x-index nan), c.loop-x.invariant.0), (puts_length put ∙ c.loop-x.invariant.1.0, rw add-one (puts_then c.loop-x.invariant.1.1 put)))

pub returns : goal.returns
returns c =
    let a = c.args in
    let e : c.loop-x.x-index ≡ length a.xs.now = omega (arith, c.loop-x-test.false) in (rw e at c.loop-x.invariant.1.1, omega (arith, e, c.loop-x.invariant.0))
