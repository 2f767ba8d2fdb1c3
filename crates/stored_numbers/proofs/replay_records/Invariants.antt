use Prim.Native.Nat.{◌-◌, ◌≤◌}
use Rattle.stored_numbers.proofs.Records.{Rest}
use Rattle.stored_numbers.proofs.replay_records.Given as goal

abbrev pub invariant-loop-k : goal.invariant-loop-k
invariant-loop-k g l =
    (l.k ≤ 800_000) × ((l.cases ≤ l.k) × ((l.differences ≤ l.cases) × Rest (goal.F-post g l.replays) l.s l.end l.at l.k l.cases l.differences))

abbrev pub decreases-loop-k : goal.decreases-loop-k
decreases-loop-k g l = 800_001 - l.k
