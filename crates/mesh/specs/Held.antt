-- What a mesh's buffers hold, field by field: what all later work keeps, and what is so only at first. Definitions only: `held`, `fresh` and `held_kept` in
-- proofs/ say that it is so where a mesh is answered, and that later work keeps it.
use Rattle.std.specs.Prelude.{ℕ, ◌+◌, ◌*◌, ◌/◌, ◌<◌, ◌≤◌, ◌≡◌, List, ◌≢◌, length, get_or, Float}
use Rattle.layout.specs.Layout.{words_per_vertex, vertex_start, vertex_end, vertex_flag, words_per_edge, edge_head, edge_scratch, words_per_triangle, triangle_first_entry, triangle_last_entry}
use Rattle.topology.specs.Edges.{vertex_faces}
use Rattle.vertex_faces.specs.Ranges.{start_of, end_of}
use Rattle.frames.specs.Held.{HoldsEdges, HoldsFaces, HoldsSides, HoldsLengths, HoldsNormals}
use Rattle.mesh.specs.Topology.{MeshBuffers}

-- The topology and the flags.
pub record Held (v : List Float) (triangles flags : List ℕ) (m : MeshBuffers) : Type 0 where
  pub ends : HoldsEdges triangles m.edge_words_held
  pub faces : HoldsFaces triangles m.edge_words_held
  pub lengths : HoldsLengths v triangles m.edge_reals_held
  pub sides : HoldsSides triangles m.triangle_words_held
  pub normals : HoldsNormals v triangles m.triangle_reals
  -- the faces round vertex k stand in `round` from its start to its end
  pub start : (k : ℕ) → k < length v / 3 → get_or m.vertex_words_held (words_per_vertex * k + vertex_start) 0 ≡ start_of triangles k
  pub end : (k : ℕ) → k < length v / 3 → get_or m.vertex_words_held (words_per_vertex * k + vertex_end) 0 ≡ end_of triangles k
  pub faces_round_held : (k i : ℕ) → k < length v / 3 → i < length (vertex_faces triangles k) → get_or m.round (start_of triangles k + i) 0 ≡ get_or (vertex_faces triangles k) i 0
  pub flag : (k : ℕ) → k < length v / 3 → get_or m.vertex_words_held (words_per_vertex * k + vertex_flag) 0 ≡ get_or flags k 0

-- Only at first: no edge has windows, nothing is remembered of one, and no triangle has entries.
pub record Fresh (m : MeshBuffers) : Type 0 where
  pub no_windows_held : (e : ℕ) → get_or m.edge_words_held (words_per_edge * e + edge_head) 0 ≡ 0
  pub scratch : (e : ℕ) → get_or m.edge_words_held (words_per_edge * e + edge_scratch) 0 ≡ 0
  pub no_entries : (f a : ℕ) → triangle_first_entry ≤ a → a < words_per_triangle → get_or m.triangle_words_held (words_per_triangle * f + a) 0 ≡ 0

-- What later work writes to the mesh's buffers, from m to m': no more than the chain head and the scratch word of edges, the first and the last entry of triangles.
pub record Worked (m m' : MeshBuffers) : Type 0 where
  pub vertex_words_held : m'.vertex_words_held ≡ m.vertex_words_held
  pub edge_words_held : (i : ℕ) → ((e : ℕ) → (i ≢ words_per_edge * e + edge_head) × (i ≢ words_per_edge * e + edge_scratch)) → get_or m'.edge_words_held i 0 ≡ get_or m.edge_words_held i 0
  pub edge_reals_held : m'.edge_reals_held ≡ m.edge_reals_held
  pub round : m'.round ≡ m.round
  pub triangle_words_held : (i : ℕ) → ((f : ℕ) → (i ≢ words_per_triangle * f + triangle_first_entry) × (i ≢ words_per_triangle * f + triangle_last_entry)) → get_or m'.triangle_words_held i 0 ≡ get_or m.triangle_words_held i 0
  pub triangle_reals : m'.triangle_reals ≡ m.triangle_reals
