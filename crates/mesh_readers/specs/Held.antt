-- The buffers hold a mesh, of so many vertices: its edges and triangles, and the faces round its vertices. Definitions only.
use Rattle.std.specs.Prelude.{ℕ, ◌+◌, ◌*◌, ◌<◌, ◌≡◌, List, length, get_or, Float}
use Rattle.layout.specs.Layout.{words_per_vertex, vertex_start, vertex_end}
use Rattle.job_checks.specs.Sound.{ValidTriangles}
use Rattle.topology.specs.Edges.{vertex_faces}
use Rattle.vertex_faces.specs.Ranges.{start_of, end_of}
use Rattle.frames.specs.Held.{HoldsEdges, HoldsFaces, HoldsSides, HoldsLengths, HoldsNormals}

pub record HoldsMesh (v : List Float) (triangles : List ℕ) (n : ℕ) (edge_words : List ℕ) (edge_reals : List Float) (triangle_words : List ℕ) (triangleReals : List Float) : Type 0 where
  pub valid : ValidTriangles triangles n
  pub ends : HoldsEdges triangles edge_words
  pub faces : HoldsFaces triangles edge_words
  pub lengths : HoldsLengths v triangles edge_reals
  pub sides : HoldsSides triangles triangle_words
  pub normals : HoldsNormals v triangles triangleReals

pub record HoldsRound (triangles : List ℕ) (n : ℕ) (vertex_words round : List ℕ) : Type 0 where
  pub start : (k : ℕ) → k < n → get_or vertex_words (words_per_vertex * k + vertex_start) 0 ≡ start_of triangles k
  pub end : (k : ℕ) → k < n → get_or vertex_words (words_per_vertex * k + vertex_end) 0 ≡ end_of triangles k
  pub faces_round_held : (k i : ℕ) → k < n → i < length (vertex_faces triangles k) → get_or round (start_of triangles k + i) 0 ≡ get_or (vertex_faces triangles k) i 0
