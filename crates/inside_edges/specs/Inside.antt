-- "a window's ends numbers from 0 to its edge's length" (demand 3): of candidates and of live windows. Definitions only.
use Rattle.std.specs.Prelude.{ℕ, T, Float}
use Rattle.std.specs.Float.Ieee.{le}
use Rattle.float64.specs.Scalar.{zero64}
use Rattle.float_bounds.specs.Within.{Inside}
use Rattle.source_inserts.specs.of_trim_model.Windows.{Window}
use Rattle.source_inserts.specs.of_trim_model.Model.{Candidate, admits}

-- asked of a candidate only if it is admitted
abbrev pub AdmittedInside : Float → (ℕ → Float) → Candidate → Type 0
AdmittedInside limit len c = T (admits limit len c) → Inside (len c.edge) c.b0 c.b1

-- of a window of an edge of length l
abbrev pub OnLength : Float → Window → Type 0
OnLength l u = T (le zero64 u.b0) × T (le u.b1 l)
