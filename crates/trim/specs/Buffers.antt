-- The slices that window trimming is lent beside the cut buffers: the windows with their chains, the queue and the vertex distances. Definitions only.
use Rattle.std.specs.Prelude.{ℕ, List, Float}
use Rattle.buffers.specs.Lent.{Lent, given, left}

pub record Slices : Type 0 where
  pub edges : List ℕ
  pub words : List ℕ
  pub reals : List Float
  pub keys : List Float
  pub events : List ℕ
  pub vertex : List Float

abbrev pub slices : List ℕ → List ℕ → List Float → List Float → List ℕ → List Float → Slices
slices edges words reals keys events vertex = record { edges = edges; words = words; reals = reals; keys = keys; events = events; vertex = vertex }

-- at the call, and at the return
module _ (edges words : Lent ℕ) (reals keys : Lent Float) (events : Lent ℕ) (vertex : Lent Float) where
  abbrev pub before : Slices
  before = slices (given edges) (given words) (given reals) (given keys) (given events) (given vertex)

  abbrev pub after : Slices
  after = slices (left edges) (left words) (left reals) (left keys) (left events) (left vertex)
