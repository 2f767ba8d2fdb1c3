use Prim.Native.Nat.{◌+◌, ◌*◌, ◌≤◌, ◌^◌}
use Rattle.root_vectors.proofs.replay.Given as goal

abbrev pub invariant-loop-turns : goal.invariant-loop-turns
invariant-loop-turns g l = (l.turns ≤ 2 ^ 32) × (l.cases + 49152 * l.turns ≤ 49152 * 2 ^ 32) × (l.differences + 49152 * l.turns ≤ 49152 * 2 ^ 32)

abbrev pub decreases-loop-turns : goal.decreases-loop-turns
decreases-loop-turns g l = l.turns
