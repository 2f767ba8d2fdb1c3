-- The live windows of every edge in the list of all windows made, and their events in the queue. Definitions only.
use Rattle.std.specs.Prelude.{ℕ, ◌≤◌, ◌<◌, true, cond, List, ◌≡◌, eqb, length, get_or}
use Rattle.last_pass.specs.of_better.Claim.{All}
use Rattle.heap.specs.declared.Event.{Event}
use Rattle.heap.specs.declared.Item.{Item}
use Rattle.heap.specs.declared.Item.TheVariants.{Window as Item-as-Window, Vertex as Item-as-Vertex}
use Rattle.heap.specs.Model.{weight_of}
use Rattle.windows.specs.declared.WindowRecord.{WindowRecord}
use Rattle.actions.specs.Actions.{Stock}
use Rattle.last_pass.specs.of_trim_model.Windows.{Window}
use Rattle.last_pass.specs.of_trim_state.Trace.{record_of}
use Rattle.last_pass.specs.of_trim_state.State.{State}
use Rattle.last_pass.specs.of_live_windows.Live.{nums, Among}

-- 1 for an event of window i
unfoldable pub names_item : ℕ → Item → ℕ
names_item i (Item-as-Window id) = cond (eqb id.0 i) 1 0
names_item i (Item-as-Vertex k) = 0

abbrev pub names : ℕ → Event → ℕ
names i e = names_item i e.item

-- how many events of window i are queued
abbrev pub waiting : Stock → ℕ → ℕ
waiting k i = weight_of (names i) k.queued k.queue

-- u, of edge e, is the window of its number; where it is queued it has an event, of which `events` has the number
pub record OnRecord (wins : List WindowRecord) (events : ℕ → ℕ) (e : ℕ) (u : Window) : Type 0 where
  pub made : u.num < length wins
  pub is : (d : WindowRecord) → get_or wins u.num d ≡ record_of e u
  pub waits : u.carried.queued ≡ true → 1 ≤ events u.num

pub record Accounted (s : State) : Type 0 where
  pub on_record : (e : ℕ) → All (OnRecord s.wins (waiting s.stock) e) (s.live e)
  -- each window that is alive is one of its edge's
  pub complete : (d : WindowRecord) (i : ℕ) → i < length s.wins → (get_or s.wins i d).alive ≡ true → Among i (nums (s.live (get_or s.wins i d).edge.0))
  -- of a link only the chains tell
  pub unlinked : All (λ (x : WindowRecord). x.link ≡ 0) s.wins
