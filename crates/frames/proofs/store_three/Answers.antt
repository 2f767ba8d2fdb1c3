use Prim.Native.Nat.{◌+◌, ◌*◌}
use mathlib.Core.Path.{◌≡◌, refl}
use native.Mathlib.Omega.{arith}
use lib.ListN.{length-set}
use Rattle.layout.specs.Layout.{reals_per_normal}
use Rattle.buffers.specs.Slots.{fill}
use Rattle.frames.proofs.store_three.Goals as goal

pub bounds-reals-i-2 : goal.bounds-reals-i-2
bounds-reals-i-2 c = simp length-set (omega arith)

pub bounds-reals-i-3 : goal.bounds-reals-i-3
bounds-reals-i-3 c = simp length-set (omega arith)

pub returns : goal.returns
unfolding fill
returns c = let z : reals_per_normal * c.args.slot + 0 ≡ reals_per_normal * c.args.slot = omega arith in rw z refl
