use Prim.Native.Nat.{◌≤◌}
use Rattle.trim_vectors.proofs.visit_distances.Given as goal

abbrev pub invariant-loop-v : goal.invariant-loop-v
invariant-loop-v l = l.v ≤ l.n
