-- `cut_lists::copy` meets its contract. The invariant: the intervals before i are copied. Assumes nothing.
use Prim.Native.Nat.{◌*◌}
use mathlib.Core.Path.{refl}
use native.Mathlib.Omega.{arith}
use lib.ListN.{length-set}
use Rattle.cut_lists.proofs.Pushes.{copy_turn, copy_done}
use Rattle.cut_lists.proofs.copy.Goals as goal

pub loop-i-init : goal.loop-i-init
loop-i-init c = (omega arith, refl, refl)

pub bounds-to-i-in-loop-i : goal.bounds-to-i-in-loop-i
bounds-to-i-in-loop-i c = simp length-set (omega arith)

pub loop-i-preserved : goal.loop-i-preserved
loop-i-preserved c =
    let a = c.args in (
      omega arith,
      simp length-set c.loop-i.invariant.1,
      copy_turn a.from.now c.loop-i.to c.loop-i.i (2 * c.loop-i.i) (omega arith) (omega arith) c.loop-i.invariant.2,
    )

pub returns : goal.returns
returns c =
    let a = c.args in
    copy_done a.from.now c.loop-i.to a.n c.loop-i.i c.loop-i.invariant.0 c.loop-i-test.false c.loop-i.invariant.2
