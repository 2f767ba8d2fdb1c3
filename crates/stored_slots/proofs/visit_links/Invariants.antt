use Prim.Native.Nat.{◌+◌, ◌≤◌}
use Rattle.stored_slots.proofs.visit_links.Given as goal

abbrev pub invariant-loop-rest : goal.invariant-loop-rest
invariant-loop-rest l = l.rest ≤ l.slots + 1

abbrev pub decreases-loop-rest : goal.decreases-loop-rest
decreases-loop-rest l = l.rest
