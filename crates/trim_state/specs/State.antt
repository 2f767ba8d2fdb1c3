-- The Rust's `add` on the live windows of all edges, the queue and the vertex distances. Definitions only.
use Rattle.std.specs.Prelude.{ℕ, cond, List, eqb, Float, if◌then◌else◌}
use Rattle.better.specs.Stretches.{better_of}
use Rattle.actions.specs.Actions as actions
use Rattle.windows.specs.declared.Edge.{Edge}
use Rattle.windows.specs.declared.WindowRecord.{WindowRecord}
use Rattle.actions.specs.Actions.{Stock, Outcome, wins_after, play}
use Rattle.trim_model.specs.Intervals.{tiny_of}
use Rattle.trim_model.specs.Windows.{Window}
use Rattle.trim_model.specs.Add.{add_to}
use Rattle.trim_model.specs.Model.{Candidate, as_window, admits}
use Rattle.trim_state.specs.Trace.{adding}

-- all windows made, dead ones too, in the order of their numbers; for each edge its live windows in order; and the rest
pub record State : Type 0 where
  pub wins : List WindowRecord
  pub live : ℕ → List Window
  pub stock : Stock

-- a refusal by its number (12 to 14 are 01's; a list's own are in trim_operations), or what there is afterwards
pub data Result : Type 0 where
  stopped : ℕ → Result
  went : State → Result

-- the list of edge e replaced
abbrev pub put : ℕ → List Window → (ℕ → List Window) → ℕ → List Window
put e l live f = cond (eqb f e) l (live f)

unfoldable pub finish : List WindowRecord → (ℕ → List Window) → Outcome → Result
finish wins live (actions.stopped n) = stopped n
finish wins live (actions.went s) = went (record { wins = wins; live = live; stock = s })

-- of each edge its length and its two ends
pub record EdgeData : Type 0 where
  pub len : ℕ → Float
  pub low : ℕ → ℕ
  pub high : ℕ → ℕ

abbrev pub edge_in : EdgeData → ℕ → Edge
edge_in mesh e = record { id = record { 0 = e }; len = mesh.len e; a = record { 0 = mesh.low e }; b = record { 0 = mesh.high e } }

-- the cut buffer's count and the window buffer's, the limit, and the flags of the vertices
module _ (cuts windows : ℕ) (limit : Float) (flags : List ℕ) (mesh : EdgeData) where
  unfoldable pub admit_of : Candidate → State → Result
  unfolding finish
  admit_of c s =
      let e = c.edge in
      let list = s.live e in
      let made = s.stock.made in
      let todo = adding (edge_in mesh e) (as_window c) list made in
      finish
      (wins_after todo s.wins)
      (put e (add_to better_of (tiny_of (mesh.len e)) (as_window c) list made).live s.live)
      (play cuts windows limit flags todo s.stock)

  -- `add`: a candidate that is not admitted changes nothing
  unfoldable pub add_of : Candidate → State → Result
  unfolding admit_of
  add_of c s = if admits limit mesh.len c then admit_of c s else went s
