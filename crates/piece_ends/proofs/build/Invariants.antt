use Prim.Native.Nat.{◌-◌, ◌*◌, ◌≤◌}
use mathlib.Core.Path.{◌≡◌}
use lib.ListN.{length}
use Rattle.piece_ends.proofs.Building.{Partial}
use Rattle.piece_ends.proofs.build.Given as goal

abbrev pub invariant-loop-e : goal.invariant-loop-e
invariant-loop-e l = (l.e ≤ 2 * length l.kinds) × ((length l.words ≡ length l.initial.words) × Partial l.kinds l.coords l.e l.words)

abbrev pub decreases-loop-e : goal.decreases-loop-e
decreases-loop-e l = l.e
