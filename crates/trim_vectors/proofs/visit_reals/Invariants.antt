use Prim.Native.Nat.{◌≤◌}
use Rattle.trim_vectors.proofs.visit_reals.Given as goal

abbrev pub invariant-loop-k : goal.invariant-loop-k
invariant-loop-k l = l.k ≤ l.fields
