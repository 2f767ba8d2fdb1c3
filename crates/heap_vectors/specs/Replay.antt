-- What a replay counts. Record k of s is four numbers: what was done and answered (0 a push that found a slot, 1 one that found none,
-- 2 a pop of an event, 3 a pop of none), then an event's key, number and kind.
use Rattle.std.specs.Prelude.{ℕ, zero, suc, ◌+◌, ◌*◌, ◌%◌, Bool, false, not, cond, List, eqb, ltb, Err, Ok, None, Some}
use Rattle.std.specs.Float.{binary64}
use Rattle.std.specs.Float.Ieee.{to_bits}
use Rattle.vectors.specs.Records.{word_at, float_at}
use Rattle.heap.specs.declared.Event.{Event}
use Rattle.heap.specs.Order.{item_number, kind_of, item_of}
use Rattle.heap.specs.Queue.{Queue, pushing, popping, Pushed, Popped}

unfoldable pub event_at : List ℕ → ℕ → Event
event_at s k = record { key = float_at s (4 * k + 1); item = item_of (word_at s (4 * k + 2) % 4294967296) (word_at s (4 * k + 3) % 4294967296) }

-- one event, a NaN equal to a NaN
abbrev pub same_event : Event → Event → Bool
same_event a b =
    cond (eqb (to_bits binary64 a.key) (to_bits binary64 b.key)) (cond (eqb (item_number a.item) (item_number b.item)) (eqb (kind_of a.item) (kind_of b.item)) false) false

-- how many events there are then, whether the answer differs (1) or not (0), and the buffers
abbrev pub ReplayOutcome : Type 0
ReplayOutcome = ℕ × (ℕ × Queue)

-- `found` is the stored answer: that the push found a slot, that the pop found an event
unfoldable pub replay_push : Bool → ℕ → Pushed × Queue → ReplayOutcome
replay_push found n (Err l, q) = (n, (cond found 1 0, q))
replay_push found n (Ok m, q) = (m, (cond (not found) 1 0, q))

unfoldable pub pop_differs : Bool → Event → Event → ℕ
pop_differs found x e = cond found (cond (not (same_event x e)) 1 0) 1

unfoldable pub replay_pop : Bool → Event → ℕ → Popped × Queue → ReplayOutcome
unfolding pop_differs
replay_pop found e n (None, q) = (n, (cond found 1 0, q))
replay_pop found e n (Some (x, m), q) = (m, (pop_differs found x e, q))

unfoldable pub replay_record : List ℕ → ℕ → ℕ → Queue → ReplayOutcome
replay_record s k n q =
    cond (ltb (word_at s (4 * k)) 2)
    (replay_push (eqb (word_at s (4 * k)) 0) n (pushing q n (event_at s k)))
    (replay_pop (eqb (word_at s (4 * k)) 2) (event_at s k) n (popping q n))

-- m records from record k on, where d differed before
unfoldable pub replay_records : ℕ → List ℕ → ℕ → ℕ → ℕ → Queue → ReplayOutcome
replay_records zero s k n d q = (n, (d, q))
replay_records (suc m) s k n d q = let t = replay_record s k n q in replay_records m s (k + 1) t.0 (d + t.1.0) t.1.1
