-- The loop of `add` over the windows that the new one meets, as it goes along the chain. Definitions only.
use Rattle.std.specs.Prelude.{ℕ, ◌≤◌, List, [], ◌∷◌, ◌++◌, ◌≡◌, Float, Result, Ok, Err}
use Rattle.buffers.specs.declared.Lack.{Lack}
use Rattle.buffers.specs.Lack.{lack_number}
use Rattle.float64.specs.Notation.{◌⊕◌}
use Rattle.trim_split.specs.of_better.Stretches.{Interval, better_of}
use Rattle.trim_split.specs.of_better.Buffers.{pairs}
use Rattle.heap.specs.Queue.{Queue}
use Rattle.windows.specs.declared.WindowRecord.{WindowRecord}
use Rattle.chains.specs.Chains.{Links}
use Rattle.trim_split.specs.of_trim_model.Windows.{Window, take_while}
use Rattle.trim_split.specs.of_trim_model.Add.{Walk, starts_before, visit, visits}
use Rattle.trim_split.specs.of_trim_state.State.{put}
use Rattle.trim_split.specs.of_trim_state.Trace.{visiting, visitings}
use Rattle.trim_split.specs.of_live_windows.Live.{HoldsWindows, last_link}
use Rattle.trim_split.specs.Running.{Snapshot, snapshot, End, stopped, at, Does}
use Rattle.trim_visit.specs.declared.Visited.{Visited}

-- a walk from here on: no window survives yet
abbrev pub from : List Interval → ℕ → Walk
from keep made = record { survivors = []; keep = keep; made = made; slivers = [] }

-- what an answer says, with what the buffers hold then
abbrev pub visited_end : Result Visited Lack → Links → List Float → Queue → List Float → End
visited_end (Err lack) b f q vertex = stopped (lack_number lack)
visited_end (Ok v) b f q vertex = at (snapshot v.counts.made v.counts.queued v.last b f q vertex)

-- if it was not stopped, the counts are within the buffers, and no window is lost
abbrev pub VisitedWithin : ℕ → ℕ → ℕ → Result Visited Lack → Type 0
VisitedWithin cuts windows made (Err lack) = Unit {0}
VisitedWithin cuts windows made (Ok v) = (v.counts.made ≤ windows) × ((v.last ≤ v.counts.made) × ((v.kept ≤ cuts) × (made ≤ v.counts.made)))

-- if it was not stopped, the counts and `keep` are those of a walk
pub record Kept (cuts made k : ℕ) (keep' : List Float) (s : Walk) : Type 0 where
  pub count : made ≡ s.made
  pub keep : pairs k keep' ≡ s.keep
  pub few : k ≤ cuts

abbrev pub Keeps : ℕ → Result Visited Lack → List Float → Walk → Type 0
Keeps cuts (Err lack) keep' s = Unit {0}
Keeps cuts (Ok v) keep' s = Kept cuts v.counts.made v.kept keep' s

-- the windows of a list that start before the new one's end, and the walk along them
abbrev pub run_onward : Float → Window → List Window → List Window
run_onward tiny w zs = take_while (starts_before (w.b1 ⊕ tiny)) zs

abbrev pub walked : Float → Window → List Interval → ℕ → List Window → Walk
walked tiny w keep made zs = visits better_of tiny w (run_onward tiny w zs) (from keep made)

-- the counts of the cut buffer and the window buffer, the limit, the flags of the vertices, the edge, tiny and the new window
module _ (cuts windows : ℕ) (limit : Float) (flags : List ℕ) (e : ℕ) (tiny : Float) (w : Window) where
  -- one turn: window u becomes what survives of it
  abbrev pub Visits1 : List Interval → Window → Snapshot → End → Type 0
  Visits1 keep u p = Does cuts windows limit flags e (visiting e tiny w u (from keep p.made)) (u ∷ []) (visit better_of tiny w u (from keep p.made)).survivors p

  -- all turns, from the link of p on, behind which few windows stand
  abbrev pub VisitsAll : (List Window → Type 0) → List Interval → Snapshot → Result Visited Lack → End → List Float → Type 0
  VisitsAll Few keep p r end keep' = (wins : List WindowRecord) (live : ℕ → List Window) (xs zs : List Window) → Few zs → p.last ≡ last_link xs → HoldsWindows p.made wins p.links p.reals (put e (xs ++ zs) live)
      → Does cuts windows limit flags e (visitings e tiny w (run_onward tiny w zs) (from keep p.made)) (run_onward tiny w zs) (walked tiny w keep p.made zs).survivors p end × Keeps cuts r keep' (walked tiny w keep p.made zs)
