-- `stl::put_records` meets its contract. Assumes nothing.
use Prim.Native.Nat.{◌/◌}
use mathlib.Core.Path.{◌≡◌, refl, ◌∙◌}
use native.Mathlib.Omega.{arith}
use lib.ListN.{length}
use native.Mathlib.Numerals.{add-one}
use Rattle.text_out.proofs.Puts.{puts_none, puts_then, puts_length}
use Rattle.stl_format.specs.Format.{records_bytes}
use Rattle.stl.proofs.put_records.Goals as goal

pub loop-t-init : goal.loop-t-init
unfolding records_bytes
loop-t-init c = (omega arith, (omega arith, (refl, puts_none _ _)))

pub put_record-at-requires : goal.put_record-at-requires
put_record-at-requires c =
    (omega (arith, c.loop-t.invariant.1.0, c.requires.0, c.requires.1.0), (omega (arith, c.loop-t-test.true), c.requires.1.1))

pub loop-t-preserved : goal.loop-t-preserved
unfolding records_bytes
loop-t-preserved c =
    let put = c.put_record-at.ensures in
    (omega (arith, c.loop-t-test.true), (omega (arith, put.1, c.loop-t.invariant.1.0), (puts_length put.0 ∙ c.loop-t.invariant.1.1.0, rw add-one (puts_then c.loop-t.invariant.1.1.1 put.0))))

pub returns : goal.returns
returns c =
    let a = c.args in
    let e : c.loop-t.t ≡ length a.triangles.now / 3 = omega (arith, c.loop-t-test.false, c.loop-t.invariant.0) in
    rw e at c.loop-t.invariant.1.1.1
