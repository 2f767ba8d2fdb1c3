-- The reference model of window trimming: 01's book of demand 3. Definitions only.
-- It is fed one limit, each edge's length and the candidate windows' arguments (01's offers), and nothing else.
use Rattle.std.specs.Prelude.{ℕ, ◌+◌, Bool, not, ◌&&◌, ◌||◌, Float, if◌then◌else◌}
use mathlib.Core.List.{List, [], ◌∷◌, ◌++◌}
use Rattle.std.proofs.Math.Dec.{eqb}
use Rattle.std.specs.Float.Ieee.{lt, le}
use Rattle.source.specs.declared.Src.{Src}
use Rattle.windows.specs.declared.Carried.{Carried}
use Rattle.source.specs.Distance.{lowest_of}
use Rattle.better.specs.Stretches.{Interval, interval}
use Rattle.trim_model.specs.Intervals.{width, tiny_of}
use Rattle.trim_model.specs.Windows.{Window}
use Rattle.trim_model.specs.Add.{Better, AddOutcome, add_to, add_bound}

pub record Candidate : Type 0 where
  pub edge : ℕ
  pub b0 : Float
  pub b1 : Float
  pub src : Src
  pub carried : Carried

-- of an edge: its live windows, the ranges of the candidates admitted to it, and the slivers that they dropped
pub record EdgeState : Type 0 where
  pub live : List Window
  pub admitted : List Interval
  pub slivers : List Interval

-- of all edges together: how many windows are made
pub record Model : Type 0 where
  pub edge : ℕ → EdgeState
  pub made : ℕ

-- at first there are none
abbrev pub empty : Model
empty = record { edge = λ (e : ℕ). record { live = []; admitted = []; slivers = [] }; made = 0 }

-- the candidate as the window that `add` is given: its number is not used
abbrev pub as_window : Candidate → Window
as_window c = record { b0 = c.b0; b1 = c.b1; low = lowest_of c.src c.b0 c.b1; src = c.src; carried = c.carried; num = 0 }

-- not where its width is at most tiny, or its lowest value above the limit
abbrev pub admits : Float → (ℕ → Float) → Candidate → Bool
admits limit len c = not (le (width c.b0 c.b1) (tiny_of (len c.edge)) || lt limit (lowest_of c.src c.b0 c.b1))

-- the edge of an admitted candidate, after its addition
abbrev pub updated : Candidate → EdgeState → AddOutcome → EdgeState
updated c s a = record { live = a.live; admitted = s.admitted ++ (interval c.b0 c.b1 ∷ []); slivers = s.slivers ++ a.slivers }

module _ (better : Better) (limit : Float) (len : ℕ → Float) where
  -- other edges stay
  unfoldable pub admit : Candidate → Model → Model
  unfolding add_to
  admit c m =
      let s = m.edge c.edge in
      let a = add_to better (tiny_of (len c.edge)) (as_window c) s.live m.made in
      record { edge = λ (e : ℕ). if eqb e c.edge then updated c s a else m.edge e; made = a.made }

  -- a candidate that is not admitted changes nothing
  unfoldable pub step : Candidate → Model → Model
  unfolding admit
  step c m = if admits limit len c then admit c m else m

  unfoldable pub steps : List Candidate → Model → Model
  unfolding step
  steps [] m = m
  steps (c ∷ cs) m = steps cs (step c m)

  -- ---- 01's bound for edge e: the sum over the list's candidates to it
  unfoldable pub step_bound : ℕ → Candidate → Model → ℕ
  step_bound e c m = if admits limit len c && eqb e c.edge then add_bound better (tiny_of (len c.edge)) (as_window c) (m.edge e).live else 0

  unfoldable pub steps_bound : ℕ → List Candidate → Model → ℕ
  unfolding step_bound step
  steps_bound e [] m = 0
  steps_bound e (c ∷ cs) m = step_bound e c m + steps_bound e cs (step c m)
