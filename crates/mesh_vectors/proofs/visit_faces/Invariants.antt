use Prim.Native.Nat.{◌≤◌}
use Rattle.mesh_vectors.proofs.visit_faces.Given as goal

abbrev pub invariant-loop-i : goal.invariant-loop-i
invariant-loop-i l = l.i ≤ l.end
