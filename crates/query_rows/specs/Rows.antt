-- Rows of questions: refusal 20 once, then each question's number and distance, which are those of the single query. Definitions only.
-- A row whose answers don't fit is refused by 74, a number that no document uses.
use Rattle.std.specs.Prelude.{ℕ, Bool, ◌||◌, List, ltb, Float, Result, Ok, Err, ⊤, length, get_or, if◌then◌else◌}
use Rattle.layout.specs.Layout.{coordinates_per_vertex}
use Rattle.buffers.specs.Slots.{slots_of}
use Rattle.computed.specs.declared.Computed.{Computed}
use Rattle.computed.specs.declared.Computed.TheVariants.{Refused, Field as isField}
use Rattle.computed.specs.declared.Field.{Field}
use Rattle.face_rows.specs.of_field_check.FieldCheck.{JobSlices, FieldSlices, field_unsound}
use Rattle.face_rows.specs.of_queries.declared.VertexRefusal.{VertexRefusal}
use Rattle.face_rows.specs.of_queries.Answers.{vertex_answer_number, vertex_value}
use Rattle.face_rows.specs.of_queries.Queries.{vertex_answer}
use Rattle.open_rows.specs.Written.{written_row}
use Rattle.face_rows.specs.FaceAnswers.{face_numbers, face_values}
use Rattle.edge_rows.specs.EdgeAnswers.{edge_numbers, edge_values}
use Rattle.query_rows.specs.declared.RowRefusal.{RowRefusal}
use Rattle.query_rows.specs.declared.RowRefusal.TheVariants.{NoField, ShortRow}

abbrev pub row_number : Result ⊤ RowRefusal → ℕ
row_number (Ok d) = 0
row_number (Err NoField) = 20
row_number (Err ShortRow) = 74

-- the answer of a row, and the slices for the numbers and the distances as it leaves them
pub record RowResult : Type 0 where
  pub answer : Result ⊤ RowRefusal
  pub numbers : List ℕ
  pub distances : List Float

abbrev pub row_result : Result ⊤ RowRefusal → List ℕ → List Float → RowResult
row_result r ns ds = record { answer = r; numbers = ns; distances = ds }

-- how many elements of a slice are counted
abbrev pub elements : {A : Type 0} → List A → ℕ
elements l = slots_of (length l) 1

-- fewer places than there are questions
unfoldable pub short_for : ℕ → ℕ → ℕ → ℕ → Bool
short_for questions others numbers distances = ltb others questions || (ltb numbers questions || ltb distances questions)

-- ---- points of faces
module _ (j : JobSlices) (b : FieldSlices) (numbers : List ℕ) (distances : List Float) where
  unfoldable pub face_row : Computed → List ℕ → List Float → RowResult
  unfolding short_for written_row
  face_row (Refused k) asked points = row_result (Err NoField) numbers distances
  face_row (isField n) asked points =
      if field_unsound n j b then row_result (Err NoField) numbers distances else
      if short_for (elements asked) (slots_of (length points) coordinates_per_vertex) (elements numbers) (elements distances) then row_result (Err ShortRow) numbers distances else
      row_result (Ok tt) (written_row (face_numbers n b j asked points) (elements asked) numbers) (written_row (face_values n b j asked points) (elements asked) distances)

-- ---- places on edges
module _ (j : JobSlices) (b : FieldSlices) (numbers : List ℕ) (distances : List Float) where
  unfoldable pub edge_row : Computed → List ℕ → List Float → RowResult
  unfolding short_for written_row
  edge_row (Refused k) edges places = row_result (Err NoField) numbers distances
  edge_row (isField n) edges places =
      if field_unsound n j b then row_result (Err NoField) numbers distances else
      if short_for (elements edges) (elements places) (elements numbers) (elements distances) then row_result (Err ShortRow) numbers distances else
      row_result (Ok tt) (written_row (edge_numbers n b edges places) (elements edges) numbers) (written_row (edge_values n b edges places) (elements edges) distances)

-- ---- vertices
abbrev pub vertex_asked : Field → FieldSlices → List ℕ → ℕ → Result Float VertexRefusal
vertex_asked n b asked i = vertex_answer n b (get_or asked i 0)

module _ (n : Field) (b : FieldSlices) (asked : List ℕ) where
  abbrev pub vertex_numbers : ℕ → ℕ
  vertex_numbers i = vertex_answer_number (vertex_asked n b asked i)

  abbrev pub vertex_values : ℕ → Float
  vertex_values i = vertex_value (vertex_asked n b asked i)

module _ (j : JobSlices) (b : FieldSlices) (numbers : List ℕ) (distances : List Float) where
  unfoldable pub vertex_row : Computed → List ℕ → RowResult
  unfolding short_for written_row
  vertex_row (Refused k) asked = row_result (Err NoField) numbers distances
  vertex_row (isField n) asked =
      if field_unsound n j b then row_result (Err NoField) numbers distances else
      if short_for (elements asked) (elements asked) (elements numbers) (elements distances) then row_result (Err ShortRow) numbers distances else
      row_result (Ok tt) (written_row (vertex_numbers n b asked) (elements asked) numbers) (written_row (vertex_values n b asked) (elements asked) distances)
