-- A pop on the window buffer's words. Definitions only.
use Rattle.std.specs.Prelude.{ℕ, Bool, true, false, cond, ◌&&◌, List, ltb, None, Some, Option}
use Rattle.layout.specs.Layout.{alive_flag, queued_flag}
use Rattle.windows.specs.Windows.{has_flag, flags_at, flags_with}
use Rattle.heap.specs.declared.Item.{Item}
use Rattle.heap.specs.declared.Item.TheVariants.{Window, Vertex}
use Rattle.heap.specs.Queue.{Popped}
use Rattle.pop.specs.declared.Taken.{Taken}

-- the Rust's `w.alive && w.queued`, of one of the first `made` windows
abbrev pub is_pending : ℕ → List ℕ → ℕ → Bool
is_pending made w i = ltb i made && (has_flag (flags_at w i) alive_flag && has_flag (flags_at w i) queued_flag)

-- `wins[id].queued = false`
abbrev pub claimed : ℕ → List ℕ → ℕ → List ℕ
claimed made w i = cond (is_pending made w i) (flags_with w i true false) w

-- of an event's item
unfoldable pub item_pending : ℕ → List ℕ → Item → Bool
item_pending made w (Window id) = is_pending made w id.0
item_pending made w (Vertex v) = false

unfoldable pub item_claimed : ℕ → List ℕ → Item → List ℕ
item_claimed made w (Window id) = claimed made w id.0
item_claimed made w (Vertex v) = w

-- the answer, and the words
unfoldable pub taken_of : ℕ → List ℕ → Popped → Option Taken
unfolding item_pending
taken_of made w None = None
taken_of made w (Some (x, n)) = Some (record { event = x; queued = n; pending = item_pending made w x.item })

unfoldable pub words_after : ℕ → List ℕ → Popped → List ℕ
unfolding item_claimed
words_after made w None = w
words_after made w (Some (x, n)) = item_claimed made w x.item
