use Prim.Native.Nat.{◌≤◌}
use Rattle.stored_slots.proofs.visit_u32.Given as goal

abbrev pub invariant-loop-i : goal.invariant-loop-i
invariant-loop-i l = l.i ≤ l.n
