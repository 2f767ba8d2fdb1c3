use Prim.Native.Nat.{◌≤◌}
use Rattle.trim_vectors.proofs.visit_chains.Given as goal

abbrev pub invariant-loop-e : goal.invariant-loop-e
invariant-loop-e l = l.e ≤ l.n
