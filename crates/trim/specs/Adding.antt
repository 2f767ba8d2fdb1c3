-- What an addition does to the buffers, as the state of window trimming has it. Definitions only.
use Rattle.std.specs.Prelude.{ℕ, ◌≤◌, not, List, ◌≡◌, T, length, Float, Result, Ok, Err}
use Rattle.buffers.specs.declared.Lack.{Lack}
use Rattle.buffers.specs.Lack.{lack_number}
use Rattle.heap.specs.Queue.{Queue, queue}
use Rattle.windows.specs.declared.Edge.{Edge}
use Rattle.windows.specs.declared.NewWindow.{NewWindow}
use Rattle.windows.specs.declared.WindowRecord.{WindowRecord}
use Rattle.windows.specs.Windows.{capacity_of}
use Rattle.chains.specs.Chains.{Links, links}
use Rattle.trim_visit.specs.of_trim_model.Windows.{Window}
use Rattle.trim_visit.specs.of_trim_model.Model.{Candidate, admits}
use Rattle.trim_visit.specs.of_trim_model.Claim.{AdmittedProper}
use Rattle.trim_visit.specs.of_trim_state.State as state
use Rattle.trim_visit.specs.of_trim_state.State.{State, EdgeData, edge_in, admit_of, add_of}
use Rattle.trim_visit.specs.of_trim_state.Follows.{Follows}
use Rattle.trim_visit.specs.of_live_windows.Live.{HoldsWindows}
use Rattle.trim_visit.specs.of_trim_split.Running.{Snapshot, snapshot, stock_of, End, stopped, at, Untouched}
use Rattle.trim_visit.specs.of_trim_split.declared.Counts.{Counts}
use Rattle.trim.specs.Buffers.{Slices}
use Rattle.trim_visit.specs.of_cut_lists.Buffers.{Cuts}

-- a window that is to be added to an edge, as the model has it
abbrev pub candidate_of : Edge → NewWindow → Candidate
candidate_of e w = record { edge = e.id.0; b0 = w.b0; b1 = w.b1; src = w.src; carried = w.carried }

-- the one that a window of the edge is
abbrev pub new_of : WindowRecord → NewWindow
new_of x = record { b0 = x.win.b0; b1 = x.win.b1; src = x.win.src; carried = x.carried }

-- what an answer says, with what the buffers hold then
abbrev pub added_end : Result Counts Lack → Links → List Float → Queue → List Float → End
added_end (Err lack) b f q vertex = stopped (lack_number lack)
added_end (Ok c) b f q vertex = at (snapshot c.made c.queued 0 b f q vertex)

-- if it was not stopped, the windows are within the buffer
abbrev pub AddedWithin : ℕ → Result Counts Lack → Type 0
AddedWithin windows (Err lack) = Unit {0}
AddedWithin windows (Ok c) = c.made ≤ windows

-- a result is what the buffers hold: the counts, the queue and the vertex distances, all windows made and the live windows of every edge; from p₀ to p only edge e was at work
pub record LeavesState (e : ℕ) (p₀ p : Snapshot) (r : state.Result) : Type 0 where
  pub wins : List WindowRecord
  pub live : ℕ → List Window
  pub is : r ≡ state.went (record { wins = wins; live = live; stock = stock_of p })
  pub holds : HoldsWindows p.made wins p.links p.reals live
  pub untouched : Untouched (λ k. k ≡ e) p₀ p

abbrev pub SaysResult : ℕ → Snapshot → End → state.Result → Type 0
SaysResult e p₀ (stopped n) r = r ≡ state.stopped n
SaysResult e p₀ (at p) r = LeavesState e p₀ p r

-- the counts of the cut buffer and the window buffer, the limit, the flags of the vertices; the edge and the window that is to be added to it
module _ (cuts windows : ℕ) (limit : Float) (flags : List ℕ) (e : Edge) (w : NewWindow) where
  abbrev c : Candidate
  c = candidate_of e w

  -- the buffers hold state s, which follows the model, the edge is that of the mesh, and the candidate is proper where it is admitted
  pub record Given (mesh : EdgeData) (s : State) (p : Snapshot) : Type 0 where
    pub edge : edge_in mesh e.id.0 ≡ e
    pub holds : HoldsWindows p.made s.wins p.links p.reals s.live
    pub same : s.stock ≡ stock_of p
    pub candidates : List Candidate
    pub follows : Follows limit mesh.len candidates s.stock.made s.live
    pub proper : AdmittedProper limit mesh.len c

  -- from p, the window is added
  abbrev pub AddsFrom : Snapshot → End → Type 0
  AddsFrom p end = (mesh : EdgeData) (s : State) → Given mesh s p → SaysResult e.id.0 p end (add_of cuts windows limit flags mesh c s)

  -- one that is admitted
  abbrev pub Admits : Snapshot → End → Type 0
  Admits p end = (mesh : EdgeData) (s : State) → Given mesh s p → T (admits limit mesh.len c) → SaysResult e.id.0 p end (admit_of cuts windows limit flags mesh c s)

-- ---- the contract: buffers b and c at the call, b' and c' at the return
-- with so many windows made and events queued
abbrev pub snapshot_at : Counts → Slices → Snapshot
snapshot_at n b = snapshot n.made n.queued 0 (links b.edges b.words) b.reals (queue b.keys b.events) b.vertex

abbrev pub added_end_in : Result Counts Lack → Slices → End
added_end_in r b = added_end r (links b.edges b.words) b.reals (queue b.keys b.events) b.vertex

pub record Unchanged (counts : Counts) (b : Slices) (c : Cuts) (r : Result Counts Lack) (b' : Slices) (c' : Cuts) : Type 0 where
  pub answer : r ≡ Ok counts
  pub slices : b' ≡ b
  pub cuts : c' ≡ c

pub record AddsTo (limit : Float) (vertex_words : List ℕ) (e : Edge) (w : NewWindow) (counts : Counts) (b : Slices) (c : Cuts) (r : Result Counts Lack) (b' : Slices) (c' : Cuts) : Type 0 where
  -- no more windows are made than the buffer has slots for
  pub bounded : AddedWithin (capacity_of (length b.words) (length b.reals)) r
  -- from buffers that hold a state they come to hold the state after `add_of`, or what there is no slot for is told
  pub adds : AddsFrom (length c.pts) (capacity_of (length b.words) (length b.reals)) limit vertex_words e w (snapshot_at counts b) (added_end_in r b')
  -- a window that is not admitted changes nothing
  pub skips : T (not (admits limit (λ k. e.len) (candidate_of e w))) → Unchanged counts b c r b' c'
