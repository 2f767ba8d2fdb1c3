use Prim.Native.Nat.{◌-◌, ◌/◌, ◌≤◌}
use mathlib.Core.Path.{◌≡◌}
use lib.ListN.{length}
use Rattle.heap.specs.Queue.{queue}
use Rattle.heap_vectors.specs.Replay.{replay_records}
use Rattle.heap_vectors.proofs.replay_records.Given as goal

abbrev pub invariant-loop-k : goal.invariant-loop-k
invariant-loop-k l = (length l.keys ≡ length l.initial.keys) × ((length l.events ≡ length l.initial.events) × ((l.k ≤ length l.s / 32) × ((l.differences ≤ l.k) × (replay_records (length l.s / 32) l.s 0 l.n-2 0 (queue l.initial.keys l.initial.events) ≡ replay_records (length l.s / 32 - l.k) l.s l.k l.n l.differences (queue l.keys l.events)))))

abbrev pub decreases-loop-k : goal.decreases-loop-k
decreases-loop-k l = length l.s / 32 - l.k
