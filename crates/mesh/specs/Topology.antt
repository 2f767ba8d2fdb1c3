-- A mesh's topology in its six buffers. Definitions only.
use Prim.Native.Nat.{ℕ, ◌*◌, ◌/◌, ◌≤◌}
use Rattle.std.specs.Prelude.{◌≡◌, cond, length, replicate, Result}
use mathlib.Core.List.{List}
use Rattle.std.specs.Float.Ieee.{Float}
use Rattle.layout.specs.Layout.{words_per_vertex, words_per_edge, reals_per_edge, words_per_triangle, reals_per_normal}
use Rattle.float64.specs.Scalar.{zero64}
use Rattle.buffers.specs.Lent.{Lent, given, left}
use Rattle.topology.specs.Edges.{edges, shared_by_three}
use Rattle.edge_table.specs.declared.ThirdFace.{ThirdFace}
use Rattle.edge_table.specs.Table.{Mesh, table_of, edge_words, triangle_words}
use Rattle.vertex_faces.specs.Ranges.{with_ranges, with_flags, start_of, end_of, round_of}
use Rattle.frames.specs.Stored.{with_lengths, with_normals}

-- document 01's rooms of the mesh, laid out as crate layout says
pub record MeshBuffers : Type 0 where
  pub vertex_words_held : List ℕ  -- of each vertex: where its faces start and end in `round`; its flag
  pub edge_words_held : List ℕ  -- of each edge: its two vertices, its two faces, and its chain head and a scratch word, zero at first
  pub edge_reals_held : List Float  -- of each edge: its length and its unit vector
  pub round : List ℕ  -- the faces round each vertex, one vertex after the other
  pub triangle_words_held : List ℕ  -- of each triangle: its three edges, its first and its last entry and a spare word, zero at first
  pub triangle_reals : List Float  -- of each triangle: the inward normals of its sides

abbrev pub mesh_buffers : List ℕ → List ℕ → List Float → List ℕ → List ℕ → List Float → MeshBuffers
mesh_buffers vw ew er r tw tr = record { vertex_words_held = vw; edge_words_held = ew; edge_reals_held = er; round = r; triangle_words_held = tw; triangle_reals = tr }

-- at the call, and at the return
module _ (vertex_words edge_words_held : Lent ℕ) (edge_reals : Lent Float) (round triangle_words_held : Lent ℕ) (triangleReals : Lent Float) where
  abbrev pub before : MeshBuffers
  before = mesh_buffers (given vertex_words) (given edge_words_held) (given edge_reals) (given round) (given triangle_words_held) (given triangleReals)

  abbrev pub after : MeshBuffers
  after = mesh_buffers (left vertex_words) (left edge_words_held) (left edge_reals) (left round) (left triangle_words_held) (left triangleReals)

-- what refusal 10 leaves
unfoldable pub zeroed : MeshBuffers → MeshBuffers
zeroed m =
    mesh_buffers
    (replicate (length m.vertex_words_held) 0)
    (replicate (length m.edge_words_held) 0)
    (replicate (length m.edge_reals_held) zero64)
    (replicate (length m.round) 0)
    (replicate (length m.triangle_words_held) 0)
    (replicate (length m.triangle_reals) zero64)

module _ (v : List Float) (triangles : List ℕ) where
  -- What is asked of a mesh and of buffers of so many elements: a job that passed the checks has it.
  pub record Fits (vw ew er r tw tr : ℕ) : Type 0 where
    pub mesh : Mesh triangles (length v / 3)
    pub vertices_fit : words_per_vertex * (length v / 3) ≤ vw
    pub edges_fit : words_per_edge * length triangles ≤ ew
    pub edge_reals_fit : reals_per_edge * length triangles ≤ er
    pub round_fits : length triangles ≤ r
    pub triangles_fit : words_per_triangle * (length triangles / 3) ≤ tw
    pub triangle_reals_fit : reals_per_normal * length triangles ≤ tr

module _ (v : List Float) (triangles flags : List ℕ) where
  -- the words of the vertices, of which there are n in all
  unfoldable pub vertex_words : ℕ → List ℕ
  vertex_words n = with_ranges (start_of triangles) (end_of triangles) (length v / 3) (with_flags flags (length v / 3) (replicate n 0))

  -- What is added to an edge table of n edges.
  pub record Completed (n : ℕ) (ew tw vertex₀ : List ℕ) (edge₀ : List Float) (round₀ : List ℕ) (triangle₀ : List Float) (vertex : List ℕ) (edge : List Float) (round : List ℕ) (triangle : List Float) : Type 0 where
    pub vertices : vertex ≡ vertex_words (length vertex₀)
    pub faces_round_held : round ≡ round_of triangles (length v / 3) (length round₀)
    pub lengths : edge ≡ with_lengths v ew n (replicate (length edge₀) zero64)
    pub normals : triangle ≡ with_normals v triangles tw edge (length triangles) (replicate (length triangle₀) zero64)

  -- The topology in buffers, which count by their lengths alone.
  unfoldable pub filled : MeshBuffers → MeshBuffers
  unfolding vertex_words
  filled m =
      let ew : List ℕ = edge_words triangles (length m.edge_words_held) in
      let tw : List ℕ = triangle_words triangles (length m.triangle_words_held) in
      let er : List Float = with_lengths v ew (length (edges triangles)) (replicate (length m.edge_reals_held) zero64) in
      mesh_buffers
      (vertex_words (length m.vertex_words_held))
      ew
      er
      (round_of triangles (length v / 3) (length m.round))
      tw
      (with_normals v triangles tw er (length triangles) (replicate (length m.triangle_reals) zero64))

  -- The answer and the buffers: refused where an edge lies in more than two triangles.
  unfoldable pub topology_of : MeshBuffers → MeshBuffers
  topology_of m = cond (shared_by_three triangles) (zeroed m) (filled m)

  pub record MadeTopology (r : Result ℕ ThirdFace) (before after : MeshBuffers) : Type 0 where
    pub answer : r ≡ table_of triangles
    pub buffers : after ≡ topology_of before
