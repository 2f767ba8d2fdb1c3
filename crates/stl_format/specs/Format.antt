-- Binary STL, 02's L1: 80 bytes passed over; the count of triangles; for each triangle a record of 50 bytes, a normal's 12 passed over, three points of three
-- singles (f32) each, and 2 bytes passed over. Little-endian. Definitions only.
use Prim.Native.Nat.{ℕ, zero, suc, ◌+◌, ◌-◌, ◌*◌, ◌/◌, ◌%◌}
use Rattle.std.specs.Prelude.{Bool, not, ◌&&◌, eqb, length, get_or, replicate, Float}
use Rattle.std.proofs.Math.Bool.{cond}
use mathlib.Core.List.{List, [], ◌∷◌, ◌++◌}
use Rattle.std.specs.Float.{nan, binary32}
use Rattle.std.specs.Float.Ieee.{of_bits, to_bits, eq}
use Rattle.std.specs.Float.Ieee.Scale.{finite}
use Rattle.nat_laws.specs.Lists.{list_of}
use Rattle.little_endian.specs.Bytes.{number_from, number_bytes}

-- a mesh as its two lists: three coordinates for a vertex, three vertex numbers for a triangle
pub record StlMesh : Type 0 where
  pub vertices : List Float
  pub triangles : List ℕ

-- ---- the mesh of a file

abbrev pub record_count : List ℕ → ℕ
record_count s = number_from s 80

-- the length of a file of n records
abbrev pub file_length : ℕ → ℕ
file_length n = 84 + 50 * n

-- where point h starts: point h % 3 of record h / 3
abbrev pub point_from : ℕ → ℕ
point_from h = 96 + 50 * (h / 3) + 12 * (h % 3)

-- coordinate k of point h. A single's value is a double's too: nothing is rounded.
unfoldable pub coordinate : List ℕ → ℕ → ℕ → Float
unfolding number_from
coordinate s h k = of_bits binary32 (number_from s (point_from h + 4 * k))

unfoldable pub bytes_not_finite : List ℕ → ℕ → Bool
unfolding coordinate
bytes_not_finite s h = not (finite (coordinate s h 0) && finite (coordinate s h 1) && finite (coordinate s h 2))

-- all three coordinates of two points compare equal: minus zero equals zero
unfoldable pub same_point : List ℕ → ℕ → ℕ → Bool
unfolding coordinate
same_point s g h = eq (coordinate s g 0) (coordinate s h 0) && eq (coordinate s g 1) (coordinate s h 1) && eq (coordinate s g 2) (coordinate s h 2)

-- Vertices are numbered by first appearance: vertex i is the point vs i that first had its coordinates, and whose bits stand.
module _ (same : ℕ → ℕ → Bool) where
  -- the vertex among the first n that point h is the same as: its number plus one, 0 if there is none
  unfoldable pub link_among : List ℕ → ℕ → ℕ → ℕ
  link_among vs zero h = 0
  link_among vs (suc n) h = cond (same (get_or vs n 0) h) (suc n) (link_among vs n h)

  -- the points among the first h that are the same as none before them
  unfoldable pub first_points : ℕ → List ℕ
  unfolding link_among
  first_points zero = []
  first_points (suc h) = cond (eqb (link_among (first_points h) (length (first_points h)) h) 0) (first_points h ++ (h ∷ [])) (first_points h)

-- the points of a file that are vertices, and the vertex of each of its points
unfoldable pub vertex_points : List ℕ → List ℕ
unfolding same_point first_points
vertex_points s = first_points (same_point s) (3 * record_count s)

unfoldable pub vertex_of_point : List ℕ → ℕ → ℕ
unfolding same_point link_among vertex_points
vertex_of_point s h = link_among (same_point s) (vertex_points s) (length (vertex_points s)) h - 1

unfoldable pub mesh_in : List ℕ → StlMesh
unfolding coordinate vertex_points vertex_of_point
mesh_in s = record {
  vertices = list_of (3 * length (vertex_points s)) (λ j. coordinate s (get_or (vertex_points s) (j / 3) 0) (j % 3));
  triangles = list_of (3 * record_count s) (λ h. vertex_of_point s h);
}

-- ---- the file of a mesh: all but the count and the points is zero

unfoldable pub single_bytes : Float → List ℕ
unfolding number_bytes
single_bytes x = number_bytes (to_bits binary32 x)

-- the coordinates of vertex a
unfoldable pub vertex_bytes : List Float → ℕ → List ℕ
unfolding single_bytes
vertex_bytes v a = single_bytes (get_or v (3 * a) nan) ++ single_bytes (get_or v (3 * a + 1) nan) ++ single_bytes (get_or v (3 * a + 2) nan)

-- the record of triangle k
unfoldable pub record_bytes : List Float → List ℕ → ℕ → List ℕ
unfolding vertex_bytes
record_bytes v t k =
    replicate 12 0 ++ vertex_bytes v (get_or t (3 * k) 0) ++ vertex_bytes v (get_or t (3 * k + 1) 0) ++ vertex_bytes v (get_or t (3 * k + 2) 0) ++ replicate 2 0

unfoldable pub records_bytes : List Float → List ℕ → ℕ → List ℕ
unfolding record_bytes
records_bytes v t zero = []
records_bytes v t (suc n) = records_bytes v t n ++ record_bytes v t n

unfoldable pub file_of : List Float → List ℕ → List ℕ
unfolding number_bytes records_bytes
file_of v t = replicate 80 0 ++ number_bytes (length t / 3) ++ records_bytes v t (length t / 3)
