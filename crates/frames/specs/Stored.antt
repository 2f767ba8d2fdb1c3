-- What the topology's buffers hold, read and written. Definitions only.
-- Where each number stands is said in crate layout.
use Rattle.std.specs.Prelude.{ℕ, zero, suc, ◌+◌, ◌*◌, ◌/◌, ◌%◌, List, [], ◌∷◌, get_or, Float}
use Rattle.std.specs.Float.{nan}
use Rattle.layout.specs.Layout.{words_per_edge, edge_low, edge_high, edge_first_face, reals_per_edge, edge_len, edge_unit, words_per_triangle, reals_per_normal}
use Rattle.float64.specs.Scalar.{one}
use Rattle.float64.specs.Notation.{◌⊘◌}
use Rattle.vec3.specs.declared.Vec3.{Vec3}
use Rattle.vec3.specs.Vec.{scale_of, norm_of}
use Rattle.job_checks.specs.Edge.{vertex_at, len_of, xhat_of, perpendicular_from}
use Rattle.buffers.specs.Slots.{fill}
use Rattle.topology.specs.Edges.{side_vertex, side_edge}

-- the ends of edge e, and its first and second face
abbrev pub low_at : List ℕ → ℕ → ℕ
low_at words e = get_or words (words_per_edge * e + edge_low) 0

abbrev pub high_at : List ℕ → ℕ → ℕ
high_at words e = get_or words (words_per_edge * e + edge_high) 0

abbrev pub face_at : List ℕ → ℕ → ℕ → ℕ
face_at words e i = get_or words (words_per_edge * e + (edge_first_face + i)) 0

-- the edge of side h
abbrev pub side_at : List ℕ → ℕ → ℕ
side_at words h = get_or words (words_per_triangle * (h / 3) + h % 3) 0

-- three reals from i on, and those of slot i from field a on
abbrev pub vector_from : List Float → ℕ → Vec3
vector_from reals i = record { x = get_or reals i nan; y = get_or reals (i + 1) nan; z = get_or reals (i + 2) nan }

abbrev pub vector_at : ℕ → List Float → ℕ → ℕ → Vec3
vector_at s reals i a = record { x = get_or reals (s * i + a) nan; y = get_or reals (s * i + (a + 1)) nan; z = get_or reals (s * i + (a + 2)) nan }

abbrev pub length_at : List Float → ℕ → Float
length_at reals e = get_or reals (reals_per_edge * e + edge_len) nan

abbrev pub unit_at : List Float → ℕ → Vec3
unit_at reals e = vector_at reals_per_edge reals e edge_unit

-- the normal of side h: three reals for each side are nine for each triangle
abbrev pub normal_at : List Float → ℕ → Vec3
normal_at reals h = vector_at reals_per_normal reals h 0

-- along p, of length one
unfoldable pub unit_of : Vec3 → Vec3
unit_of p = scale_of p (one ⊘ norm_of p)

-- the three slots from k on written
abbrev pub fill_three : ℕ → List Float → ℕ → List Float → List Float → List Float → List Float
fill_three s reals k a b c = fill s (fill s (fill s reals k 0 a) (k + 1) 0 b) (k + 2) 0 c

-- the reals with the first n slots of s written, each with its row
unfoldable pub with_rows : ℕ → (ℕ → List Float) → ℕ → List Float → List Float
with_rows s row zero reals = reals
with_rows s row (suc k) reals = fill s (with_rows s row k reals) k 0 (row k)

abbrev pub row3 : Vec3 → List Float
row3 u = u.x ∷ u.y ∷ u.z ∷ []

-- the vector in slot h, scaled to length one
abbrev pub unit_row_of : List Float → ℕ → List Float
unit_row_of reals h = row3 (unit_of (vector_at reals_per_normal reals h 0))

module _ (v : List Float) (edge_words : List ℕ) where
  abbrev pub origin_at : ℕ → Vec3
  origin_at e = vertex_at v (low_at edge_words e)

  abbrev pub edge_end : ℕ → Vec3
  edge_end e = vertex_at v (high_at edge_words e)

  -- the length and the unit vector of edge e
  unfoldable pub length_row : ℕ → List Float
  length_row e = len_of (origin_at e) (edge_end e) ∷ row3 (xhat_of (origin_at e) (edge_end e))

  abbrev pub with_lengths : ℕ → List Float → List Float
  with_lengths n reals = with_rows reals_per_edge length_row n reals

module _ (v : List Float) (triangles triangle_words : List ℕ) (edge_reals : List Float) where
  -- over side h, from its edge's stored unit vector, to the third vertex, not yet scaled; the Rust's `edges[e][0]` is the lower of the side's two vertices
  unfoldable pub perpendicular_at : ℕ → Vec3
  perpendicular_at h = perpendicular_from (vertex_at v (side_edge triangles h).low) (unit_at edge_reals (side_at triangle_words h)) (vertex_at v (side_vertex triangles h 2))

  abbrev pub perpendicular_row : ℕ → List Float
  perpendicular_row h = row3 (perpendicular_at h)

  -- the inward normal of side h
  abbrev pub normal_of : ℕ → Vec3
  normal_of h = unit_of (perpendicular_at h)

  abbrev pub with_normals : ℕ → List Float → List Float
  with_normals n reals = with_rows reals_per_normal (λ (h : ℕ). row3 (normal_of h)) n reals
