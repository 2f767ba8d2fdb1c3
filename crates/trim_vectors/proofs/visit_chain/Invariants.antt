use Prim.Native.Nat.{◌≤◌}
use Rattle.trim_vectors.proofs.visit_chain.Given as goal

abbrev pub invariant-loop-i : goal.invariant-loop-i
invariant-loop-i l = l.i ≤ l.n
