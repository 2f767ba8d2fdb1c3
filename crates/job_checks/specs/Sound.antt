-- What holds of a job that passed, check by check. Definitions only: the laws in proofs/Sound.antt say that it is so.
use Rattle.std.specs.Prelude.{ℕ, ◌+◌, ◌*◌, ◌/◌, ◌<◌, ◌≤◌, ◌≡◌, false, List, length, get_or, Float}
use Rattle.std.specs.Float.{nan}
use Rattle.layout.specs.Layout.{coordinates_per_piece}
use Rattle.job_checks.specs.declared.BufferCounts.{BufferCounts}
use Rattle.job_checks.specs.Job.{Job, vertex_count, triangle_count, piece_count}
use Rattle.job_checks.specs.Refusals.{max_vertices, max_triangles, max_pieces, out_of_range, degenerate_in, used_out_of_range, limit_outside}

-- From 1, six lengths: whole records, counts within their bounds, lists of one thing that agree
pub record WholeRecords (vertices triangles flags kinds faces coords : ℕ) : Type 0 where
  pub whole_vertices : vertices ≡ 3 * (vertices / 3)
  pub whole_triangles : triangles ≡ 3 * (triangles / 3)
  pub few_vertices : vertices / 3 ≤ max_vertices
  pub few_triangles : triangles / 3 ≤ max_triangles
  pub few_pieces : kinds ≤ max_pieces
  pub flag_each : flags ≡ vertices / 3
  pub face_each : faces ≡ kinds
  pub six_each : coords ≡ coordinates_per_piece * kinds

-- three different numbers
pub record Distinct (a b c : ℕ) : Type 0 where
  pub first_second : a ≡ b → ⊥
  pub second_third : b ≡ c → ⊥
  pub third_first : c ≡ a → ⊥

-- From 1 to 3: whole triangles, no more than document 01 allows, each of three different vertices of the n that there are.
pub record ValidTriangles (triangles : List ℕ) (n : ℕ) : Type 0 where
  pub whole : length triangles ≡ 3 * (length triangles / 3)
  pub few : length triangles / 3 ≤ max_triangles
  pub there : (i : ℕ) → i < length triangles → get_or triangles i 0 < n
  pub distinct : (t : ℕ) → t < length triangles / 3 → Distinct (get_or triangles (3 * t) 0) (get_or triangles (3 * t + 1) 0) (get_or triangles (3 * t + 2) 0)

-- From 4: every coordinate of a vertex is in range.
pub record VerticesInRange (v : List Float) : Type 0 where
  pub in_range : (i : ℕ) → i < length v → out_of_range (get_or v i nan) ≡ false

-- From 5: edges long enough, altitudes high enough.
pub record RegularTriangles (v : List Float) (triangles : List ℕ) : Type 0 where
  pub regular : (t : ℕ) → t < length triangles / 3 → degenerate_in v (get_or triangles (3 * t) 0) (get_or triangles (3 * t + 1) 0) (get_or triangles (3 * t + 2) 0) ≡ false

-- From 6 and 7, pieces in a mesh of so many triangles: their faces are there and the coordinates that they use are in range.
pub record SoundPieces (triangles : ℕ) (kinds faces : List ℕ) (coords : List Float) : Type 0 where
  pub face_there : (i : ℕ) → i < length faces → get_or faces i 0 < triangles
  pub piece_in_range : (i : ℕ) → i < length coords → used_out_of_range kinds coords i ≡ false

-- From 9: each buffer of a fixed size has the slots that the job needs.
pub record LongEnough (vertices triangles pieces : ℕ) (b : BufferCounts) : Type 0 where
  pub edges_fit : 3 * triangles ≤ b.edges
  pub vertex_faces_fit : 3 * triangles ≤ b.vertex_faces
  pub vertices_fit : vertices ≤ b.vertices
  pub triangles_fit : triangles ≤ b.triangles
  pub pieces_fit : pieces ≤ b.pieces
  pub scratch_fits : b.windows ≤ b.scratch
  pub other_scratch_fits : b.windows ≤ b.other_scratch

-- From all nine.
pub record Sound (j : Job) (b : BufferCounts) : Type 0 where
  pub whole : WholeRecords (length j.vertices) (length j.triangles) (length j.flags) (length j.kinds) (length j.faces) (length j.coords)
  pub flag : (i : ℕ) → i < length j.flags → get_or j.flags i 0 ≤ 1
  pub kind : (i : ℕ) → i < length j.kinds → get_or j.kinds i 0 ≤ 1
  pub triangles : ValidTriangles j.triangles (vertex_count j)
  pub vertices : VerticesInRange j.vertices
  pub regular : RegularTriangles j.vertices j.triangles
  pub pieces : SoundPieces (triangle_count j) j.kinds j.faces j.coords
  pub limit_in_range : limit_outside j.limit ≡ false
  pub buffers : LongEnough (vertex_count j) (triangle_count j) (piece_count j) b
