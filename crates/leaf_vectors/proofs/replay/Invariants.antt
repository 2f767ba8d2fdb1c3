use Prim.Native.Nat.{◌+◌, ◌*◌, ◌≤◌}
use Rattle.leaf_vectors.proofs.replay.Given as goal

abbrev pub invariant-loop-i : goal.invariant-loop-i
invariant-loop-i g l = (l.differences ≤ l.i) × (l.k ≤ 1 + 84 * l.i)
