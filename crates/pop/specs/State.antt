-- A pop on the state of window trimming. Definitions only.
use Rattle.std.specs.Prelude.{ℕ, cond, List, None, Some}
use Rattle.windows.specs.declared.WindowRecord.{WindowRecord}
use Rattle.windows.specs.Windows.{adjust, unqueued_record}
use Rattle.heap.specs.declared.Item.{Item}
use Rattle.heap.specs.declared.Item.TheVariants.{Window as Item-as-Window, Vertex}
use Rattle.heap.specs.Queue.{Queue, Popped}
use Rattle.actions.specs.Actions.{stock}
use Rattle.trim_model.specs.Windows.{Window}
use Rattle.trim_state.specs.State.{State}
use Rattle.live_windows.specs.Live.{unqueued_in}

-- a live window is no more queued; a dead one stays as it is
abbrev pub claimed_win : WindowRecord → WindowRecord
claimed_win x = cond x.alive (unqueued_record x) x

-- of all windows made, and of the live windows of an edge
unfoldable pub wins_claimed : Item → List WindowRecord → List WindowRecord
wins_claimed (Item-as-Window id) wins = adjust id.0 claimed_win wins
wins_claimed (Vertex v) wins = wins

unfoldable pub live_claimed : Item → List Window → List Window
live_claimed (Item-as-Window id) live = unqueued_in id.0 live
live_claimed (Vertex v) live = live

-- the first event is taken out, and a live window that it names is no longer queued
unfoldable pub after_pop : State → Popped × Queue → State
unfolding wins_claimed live_claimed
after_pop s (None, q) = s
after_pop s (Some (x, n), q) = record {
  wins = wins_claimed x.item s.wins;
  live = λ (e : ℕ). live_claimed x.item (s.live e);
  stock = stock s.stock.made n q s.stock.vertex;
}
