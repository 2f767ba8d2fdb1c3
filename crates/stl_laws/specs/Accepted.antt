-- Which files are read and which meshes written, and meshes whose vertices are numbered as reading numbers them. Definitions only.
use Rattle.std.specs.Prelude.{ℕ, ◌+◌, ◌*◌, ◌/◌, ◌%◌, ◌≤◌, ◌<◌, ◌≡◌, Bool, true, false, List, T, eqb, length, get_or, Float, Result, Ok, Err}
use Rattle.std.specs.Float.{nan}
use Rattle.std.specs.Float.Ieee.{eq}
use Rattle.single.specs.Single.{is_single}
use Rattle.stl_format.specs.declared.StlCounts.{StlCounts}
use Rattle.stl_format.specs.declared.StlRefusal.{StlRefusal}
use Rattle.stl_format.specs.Format.{StlMesh, record_count, file_length, bytes_not_finite, first_points, vertex_points}

-- a file that 40 to 43 pass
pub record Readable (s : List ℕ) : Type 0 where
  pub long : length s ≡ file_length (record_count s)
  pub finite : (h : ℕ) → h < 3 * record_count s → bytes_not_finite s h ≡ false
  pub few_triangles : record_count s ≤ 131070
  pub few_vertices : length (vertex_points s) ≤ 65535

-- two slices with slots for its mesh
pub record Room (s : List ℕ) (b : StlMesh) : Type 0 where
  pub vertices : length (vertex_points s) ≤ length b.vertices / 3
  pub triangles : record_count s ≤ length b.triangles / 3

abbrev pub is_mesh : Result StlCounts StlRefusal → Bool
is_mesh (Ok counts) = true
is_mesh (Err why) = false

abbrev pub mesh_answer : List ℕ → Result StlCounts StlRefusal
mesh_answer s = Ok (record { vertices = length (vertex_points s); triangles = record_count s })

-- a mesh that 1, 2 and 44 pass
pub record WritableMesh (v : List Float) (t : List ℕ) : Type 0 where
  pub whole_vertices : length v % 3 ≡ 0
  pub whole_triangles : length t % 3 ≡ 0
  pub few_vertices : length v / 3 ≤ 65535
  pub few_triangles : length t / 3 ≤ 131070
  pub there : (h : ℕ) → h < length t → get_or t h 0 < length v / 3
  pub singles : (i : ℕ) → i < length v → T (is_single (get_or v i nan))

-- all three coordinates of two vertices compare equal
abbrev pub EqualVertices : List Float → ℕ → ℕ → Type 0
EqualVertices v a b = (c : ℕ) → c < 3 → T (eq (get_or v (3 * a + c) nan) (get_or v (3 * b + c) nan))

-- Vertices that are pairwise unequal, all used, and numbered in the order of their first use: `uses` has the places of the first uses.
abbrev pub uses : List ℕ → List ℕ
uses t = first_points (λ g h. eqb (get_or t g 0) (get_or t h 0)) (length t)

pub record InOrder (v : List Float) (t : List ℕ) : Type 0 where
  pub unequal : (a b : ℕ) → a < length v / 3 → b < length v / 3 → EqualVertices v a b → a ≡ b
  pub all_used : length (uses t) ≡ length v / 3
  pub ordered : (i : ℕ) → i < length (uses t) → get_or t (get_or (uses t) i 0) 0 ≡ i
