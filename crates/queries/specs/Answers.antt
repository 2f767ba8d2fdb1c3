-- The answers of the queries: each case's number in document 01, 0 where it is no refusal, and its distance, a NaN of a refusal. Definitions only.
use Rattle.std.specs.Prelude.{ℕ, Float, Result, Ok, Err}
use Rattle.std.specs.Float.{nan}
use Rattle.std.specs.Result.{result_unwrap_or}
use Rattle.queries.specs.declared.FaceRefusal.{FaceRefusal}
use Rattle.queries.specs.declared.FaceRefusal.TheVariants as face
use Rattle.queries.specs.declared.EdgeRefusal.{EdgeRefusal}
use Rattle.queries.specs.declared.EdgeRefusal.TheVariants as edge
use Rattle.queries.specs.declared.VertexRefusal.{VertexRefusal}
use Rattle.queries.specs.declared.VertexRefusal.TheVariants as vertex
use Rattle.queries.specs.declared.ListedWindow.{ListedWindow}
use Rattle.queries.specs.declared.WindowRefusal.{WindowRefusal}
use Rattle.queries.specs.declared.WindowRefusal.TheVariants as window

abbrev pub face_answer_number : Result Float FaceRefusal → ℕ
face_answer_number (Ok d) = 0
face_answer_number (Err face.NoField) = 20
face_answer_number (Err face.MissingFace) = 21
face_answer_number (Err face.PointOutOfRange) = 22

abbrev pub edge_answer_number : Result Float EdgeRefusal → ℕ
edge_answer_number (Ok d) = 0
edge_answer_number (Err edge.NoField) = 20
edge_answer_number (Err edge.MissingEdge) = 23
edge_answer_number (Err edge.PlaceOutside) = 24

abbrev pub vertex_answer_number : Result Float VertexRefusal → ℕ
vertex_answer_number (Ok d) = 0
vertex_answer_number (Err vertex.NoField) = 20
vertex_answer_number (Err vertex.MissingVertex) = 25

abbrev pub window_answer_number : Result ListedWindow WindowRefusal → ℕ
window_answer_number (Ok w) = 0
window_answer_number (Err window.NoField) = 20
window_answer_number (Err window.MissingEdge) = 23
window_answer_number (Err window.PastEnd) = 26

abbrev pub face_value : Result Float FaceRefusal → Float
face_value a = result_unwrap_or a nan

abbrev pub edge_value : Result Float EdgeRefusal → Float
edge_value a = result_unwrap_or a nan

abbrev pub vertex_value : Result Float VertexRefusal → Float
vertex_value a = result_unwrap_or a nan
