-- Demand 3 about the reference model. What it asks of `better`, `Separates`, stands with `better`. Definitions only.
use Rattle.std.specs.Prelude.{ℕ, ◌≤◌, ◌<◌, List, [], ◌∷◌, ◌⊎◌, ◌≡◌, T, length, Float}
use Rattle.std.specs.Float.Ieee.{lt, le}
use Rattle.float64.specs.Scalar.{zero64, min_of, max_of}
use Rattle.better.specs.Stretches.{Interval}
use Rattle.trim_model.specs.Intervals.{width, tiny_of}
use Rattle.trim_model.specs.Windows.{Window}
use Rattle.trim_model.specs.Add.{Better}
use Rattle.trim_model.specs.Model.{Candidate, EdgeState, Model, empty, admits, steps, steps_bound}
use Rattle.better.specs.Claim.{All, Pairs, Point}

-- some element of a list
abbrev pub Any : {A : Type 0} → (A → Type 0) → List A → Type 0
Any P [] = ⊥
Any P (x ∷ xs) = P x ⊎ Any P xs

-- x lies in an interval, in a window, the ends included
abbrev pub In : Float → Interval → Type 0
In x k = T (le k.from x) × T (le x k.to)

abbrev pub InWindow : Float → Window → Type 0
InWindow x u = T (le u.b0 x) × T (le x u.b1)

-- ---- demand 3 for an edge whose tiny is given, sentence by sentence. Widths are computed differences, as 01 reads them.
pub record Trimmed (tiny : Float) (bound : ℕ) (s : EdgeState) : Type 0 where
  -- "they stand in rising order of start and of end"
  pub order : Pairs (λ (u v : Window). T (lt u.b0 v.b0) × T (lt u.b1 v.b1)) s.live
  -- "each is wider than a hundred-thousand-millionth of the edge"
  pub widths : All (λ (u : Window). T (lt tiny (width u.b0 u.b1))) s.live
  -- "and no two share more"
  pub shares : Pairs (λ (u v : Window). T (le (width (max_of u.b0 v.b0) (min_of u.b1 v.b1)) tiny)) s.live
  -- "every point of every window admitted to that edge lies in a live one there, or in a sliver .., which an offer to that edge dropped"
  pub cover : (x : Float) → Point x → Any (In x) s.admitted → Any (InWindow x) s.live ⊎ Any (In x) s.slivers
  -- ".. no wider than that": each sliver is wider than zero, and at most tiny
  pub narrow : All (λ (k : Interval). T (lt zero64 (width k.from k.to)) × T (le (width k.from k.to) tiny)) s.slivers
  -- "The book names the slivers, on each edge at most as many as 01's bound"
  pub count : length s.slivers ≤ bound

-- ---- the whole
-- "each of a window to some edge", "a window's ends numbers from 0 to its edge's length": of this only that all three are finite doubles, and the length above zero
pub record Proper (len : ℕ → Float) (c : Candidate) : Type 0 where
  pub start : Point c.b0
  pub end : Point c.b1
  pub length : Point (len c.edge)
  pub positive : T (lt zero64 (len c.edge))

-- asked of those that are admitted only: one that is not changes nothing, whatever its ends
abbrev pub AdmittedProper : Float → (ℕ → Float) → Candidate → Type 0
AdmittedProper limit len c = T (admits limit len c) → Proper len c

-- "For every list of offers .., in any order and number, those not admitted among them, all edges empty and no window made at first ..: after the list, on every edge".
-- "the live windows are exactly those of 01's book" is said of the program, by the contract that names `steps`.
abbrev pub ModelDemand3 : Better → Float → (ℕ → Float) → Type 0
ModelDemand3 better limit len =
    (cs : List Candidate) → All (AdmittedProper limit len) cs → (e : ℕ)
    → Trimmed (tiny_of (len e)) (steps_bound better limit len e cs empty) ((steps better limit len cs empty).edge e)

-- ---- the numbers of live windows, for any list at all
pub record Numbered (m : Model) : Type 0 where
  -- they were given out
  pub below : (e : ℕ) → All (λ (u : Window). u.num < m.made) (m.edge e).live
  -- no two live windows of an edge, or of two edges, have one number
  pub differ : (e : ℕ) → Pairs (λ (u v : Window). (u.num ≡ v.num) → ⊥) (m.edge e).live
  pub apart : (e f : ℕ) → ((e ≡ f) → ⊥) → All (λ (u : Window). All (λ (v : Window). (u.num ≡ v.num) → ⊥) (m.edge f).live) (m.edge e).live
