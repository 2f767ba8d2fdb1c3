-- A mesh, the table of a job's pieces' ends, and that the pieces' faces are the mesh's. Definitions only.
use Rattle.std.specs.Prelude.{ℕ, ◌/◌, ◌<◌, List, Float, length, get_or}
use Rattle.carriers.specs.of_mesh_readers.Held.{HoldsMesh, HoldsRound}
use Rattle.segments_behind.specs.of_piece_ends.Walk.{HoldsTable}

pub record HoldsJob (v : List Float) (triangles : List ℕ) (n : ℕ) (edge_words : List ℕ) (edge_reals : List Float) (triangle_words : List ℕ) (triangleReals : List Float) (vertex_words round kinds faces : List ℕ) (coords : List Float) (words : List ℕ) : Type 0 where
  pub mesh : HoldsMesh v triangles n edge_words edge_reals triangle_words triangleReals
  pub round_vertex : HoldsRound triangles n vertex_words round
  pub table : HoldsTable kinds coords words
  pub face_there : (i : ℕ) → i < length kinds → get_or faces i 0 < length triangles / 3
