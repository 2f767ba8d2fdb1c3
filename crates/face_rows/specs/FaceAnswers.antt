-- What each question of a row of points is answered. Definitions only.
use Rattle.std.specs.Prelude.{ℕ, List, Float, Result, get_or}
use Rattle.job_checks.specs.Edge.{vertex_at}
use Rattle.computed.specs.declared.Field.{Field}
use Rattle.queries.specs.of_field_check.FieldCheck.{JobSlices, FieldSlices}
use Rattle.queries.specs.declared.FaceRefusal.{FaceRefusal}
use Rattle.queries.specs.Answers.{face_answer_number, face_value}
use Rattle.queries.specs.Queries.{face_answer}

-- three coordinates for each point
abbrev pub face_asked : Field → FieldSlices → JobSlices → List ℕ → List Float → ℕ → Result Float FaceRefusal
face_asked n b j asked points i = face_answer n b j (get_or asked i 0) (vertex_at points i)

module _ (n : Field) (b : FieldSlices) (j : JobSlices) (asked : List ℕ) (points : List Float) where
  abbrev pub face_numbers : ℕ → ℕ
  face_numbers i = face_answer_number (face_asked n b j asked points i)

  abbrev pub face_values : ℕ → Float
  face_values i = face_value (face_asked n b j asked points i)
