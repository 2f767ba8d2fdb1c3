-- What each question of a row of places is answered. Definitions only.
use Rattle.std.specs.Prelude.{ℕ, List, Float, Result, get_or}
use Rattle.std.specs.Float.{nan}
use Rattle.computed.specs.declared.Field.{Field}
use Rattle.queries.specs.of_field_check.FieldCheck.{FieldSlices}
use Rattle.queries.specs.declared.EdgeRefusal.{EdgeRefusal}
use Rattle.queries.specs.Answers.{edge_answer_number, edge_value}
use Rattle.queries.specs.Queries.{edge_answer}

abbrev pub edge_asked : Field → FieldSlices → List ℕ → List Float → ℕ → Result Float EdgeRefusal
edge_asked n b edges places i = edge_answer n b (get_or edges i 0) (get_or places i nan)

module _ (n : Field) (b : FieldSlices) (edges : List ℕ) (places : List Float) where
  abbrev pub edge_numbers : ℕ → ℕ
  edge_numbers i = edge_answer_number (edge_asked n b edges places i)

  abbrev pub edge_values : ℕ → Float
  edge_values i = edge_value (edge_asked n b edges places i)
