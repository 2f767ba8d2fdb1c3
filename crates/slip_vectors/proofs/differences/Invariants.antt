use Prim.Native.Nat.{◌≤◌, ◌-◌}
use Rattle.slip_vectors.proofs.differences.Given as goal

abbrev pub invariant-loop-i : goal.invariant-loop-i
invariant-loop-i l = (l.i ≤ l.n) × (l.found ≤ l.i)
