use Prim.Native.Nat.{◌≤◌}
use Rattle.stored_slots.proofs.visit_slot_f64.Given as goal

abbrev pub invariant-loop-k : goal.invariant-loop-k
invariant-loop-k l = l.k ≤ l.fields
