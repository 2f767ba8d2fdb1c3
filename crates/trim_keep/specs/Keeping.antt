-- The loop of `add` over the intervals that the new window keeps: those that are wide become windows, each seated by its start. Definitions only.
use Rattle.std.specs.Prelude.{ℕ, ◌≤◌, List, ◌∷◌, ◌++◌, ◌≡◌, Float, Result, Ok, Err}
use Rattle.trim_split.specs.of_better.Stretches.{Interval}
use Rattle.buffers.specs.declared.Lack.{Lack}
use Rattle.windows.specs.declared.Edge.{Edge}
use Rattle.windows.specs.declared.WindowRecord.{WindowRecord}
use Rattle.actions.specs.Actions as actions
use Rattle.actions.specs.Actions.{wins_after, play}
use Rattle.trim_split.specs.of_trim_model.Windows.{Window, fresh}
use Rattle.trim_split.specs.of_trim_model.Seat.{seat_all}
use Rattle.trim_split.specs.of_trim_state.State.{put}
use Rattle.trim_split.specs.of_trim_state.Trace.{keeping}
use Rattle.trim_split.specs.of_live_windows.Live.{HoldsWindows, last_link}
use Rattle.trim_split.specs.declared.Made.{Made}
use Rattle.trim_split.specs.Running.{Snapshot, stock_of, End, stopped, at, Untouched}

-- if it was not stopped, the counts are within the buffers
abbrev pub MadeWithin : ℕ → Result Made Lack → Type 0
MadeWithin windows (Err lack) = Unit {0}
MadeWithin windows (Ok m) = (m.counts.made ≤ windows) × (m.last ≤ m.counts.made)

-- the counts of the cut buffer and the window buffer, the limit, the flags of the vertices; the edge; and the new window
module _ (cuts windows : ℕ) (limit : Float) (flags : List ℕ) (e : Edge) (w : Window) where
  -- from p to p' the intervals became windows, seated behind xs among zs
  pub record Seated (wins : List WindowRecord) (live : ℕ → List Window) (xs zs : List Window) (ks : List Interval) (p p' : Snapshot) : Type 0 where
    pub plays : play cuts windows limit flags (keeping e w p.made ks) (stock_of p) ≡ actions.went (stock_of p')
    pub untouched : Untouched (λ k. k ≡ e.id.0) p p'
    pub holds : HoldsWindows p'.made (wins_after (keeping e w p.made ks) wins) p'.links p'.reals (put e.id.0 (seat_all (fresh w p.made ks) xs zs) live)

  abbrev pub SeatsAmong : (wins : List WindowRecord) (live : ℕ → List Window) (xs zs : List Window) → List Interval → Snapshot → End → Type 0
  SeatsAmong wins live xs zs ks p (stopped n) = play cuts windows limit flags (keeping e w p.made ks) (stock_of p) ≡ actions.stopped n
  SeatsAmong wins live xs zs ks p (at p') = Seated wins live xs zs ks p p'

  -- behind the link of p, whatever stands there
  abbrev pub Seats : List Interval → Snapshot → End → Type 0
  Seats ks p end = (wins : List WindowRecord) (live : ℕ → List Window) (xs zs : List Window) → p.last ≡ last_link xs → HoldsWindows p.made wins p.links p.reals (put e.id.0 (xs ++ zs) live) → SeatsAmong wins live xs zs ks p end

  -- one interval: it is stopped, or what the others do from there all do from p
  abbrev pub KeptOne : Interval → Snapshot → End → Type 0
  KeptOne k p (stopped n) = (ks : List Interval) → Seats (k ∷ ks) p (stopped n)
  KeptOne k p (at p') = (ks : List Interval) (end : End) → Seats ks p' end → Seats (k ∷ ks) p end
