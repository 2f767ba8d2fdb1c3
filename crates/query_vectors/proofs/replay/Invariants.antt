use Prim.Native.Nat.{◌≤◌, ◌-◌, ◌*◌}
use Rattle.query_vectors.proofs.replay.Given as goal

abbrev pub invariant-loop-k : goal.invariant-loop-k
invariant-loop-k l = (l.k ≤ 800000) × ((l.cases ≤ 1000 * l.k) × (l.differences ≤ l.cases))

abbrev pub decreases-loop-k : goal.decreases-loop-k
decreases-loop-k l = 800001 - l.k
