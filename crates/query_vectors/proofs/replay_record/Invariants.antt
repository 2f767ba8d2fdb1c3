use Prim.Native.Nat.{◌≤◌, ◌+◌, ◌*◌}
use Rattle.query_vectors.proofs.replay_record.Given as goal

abbrev pub invariant-loop-i : goal.invariant-loop-i
invariant-loop-i l = (l.cases ≤ 1000) × ((l.i ≤ l.cases) × ((l.differences ≤ l.i) × (l.c ≤ 600000 + 20 * l.i)))
