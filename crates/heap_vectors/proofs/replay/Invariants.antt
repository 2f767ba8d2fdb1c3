use mathlib.Core.Path.{◌≡◌}
use lib.ListN.{length}
use Prim.Native.Nat.{◌+◌, ◌*◌, ◌≤◌}
use Rattle.heap_vectors.proofs.replay.Given as goal

abbrev pub invariant-loop-turns : goal.invariant-loop-turns
invariant-loop-turns g l = (length l.keys ≡ 256) × ((length l.events ≡ 512) × ((l.turns ≤ 1024) × ((l.cases + 1024 * l.turns ≤ 1048576) × (l.differences + 1024 * l.turns ≤ 1048576))))

abbrev pub decreases-loop-turns : goal.decreases-loop-turns
decreases-loop-turns g l = l.turns
