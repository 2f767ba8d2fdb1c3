use Prim.Native.Nat.{◌*◌, ◌≤◌, ◌-◌}
use Rattle.slip_vectors.proofs.replay.Given as goal

abbrev pub invariant-loop-k : goal.invariant-loop-k
invariant-loop-k l = (l.k ≤ 800_000) × ((l.cases ≤ 100_000 * l.k) × (l.wrong ≤ l.cases))

abbrev pub decreases-loop-k : goal.decreases-loop-k
decreases-loop-k l = 800_001 - l.k
