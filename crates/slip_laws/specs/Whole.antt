-- The jobs that a slip can hold, and what reading such a slip answers. Definitions only.
use Rattle.std.specs.Prelude.{ℕ, ◌+◌, ◌*◌, ◌≤◌, ◌<◌, ◌≡◌, List, T, length, get_or, Float, Result, Ok}
use Rattle.std.specs.Float.{nan, binary64}
use Rattle.std.specs.Float.Ieee.{fits}
use Rattle.nat_laws.specs.Lists.{All}
use Rattle.float64.specs.Scalar.{zero64}
use Rattle.job_checks.specs.Job.{Job, vertex_count, triangle_count, piece_count}
use Rattle.slip.specs.declared.SlipJob.{SlipJob}
use Rattle.slip.specs.declared.SlipRefusal.{SlipRefusal}

-- a double: every number of the format, both infinities and the one NaN there is
abbrev pub IsDouble : Float → Type 0
IsDouble x = T (fits binary64 x)

abbrev pub IsNumber : ℕ → Type 0
IsNumber n = n < 4_294_967_296

-- the last three of a piece's six coordinates are 0
abbrev pub NoSecond : List Float → ℕ → Type 0
NoSecond coords k = (get_or coords (6 * k + 3) nan ≡ zero64) × ((get_or coords (6 * k + 4) nan ≡ zero64) × (get_or coords (6 * k + 5) nan ≡ zero64))

pub record Whole (j : Job) : Type 0 where
  -- whole records, as many of one list as of another
  pub vertices : length j.vertices ≡ 3 * vertex_count j
  pub triangles : length j.triangles ≡ 3 * triangle_count j
  pub flags : length j.flags ≡ vertex_count j
  pub faces : length j.faces ≡ piece_count j
  pub coords : length j.coords ≡ 6 * piece_count j
  -- counts, vertex numbers and faces that four bytes hold, and doubles
  pub vertex_count_held : IsNumber (vertex_count j)
  pub triangle_count_held : IsNumber (triangle_count j)
  pub piece_count_held : IsNumber (piece_count j)
  pub vertices_are : All IsDouble j.vertices
  pub triangles_are : All IsNumber j.triangles
  pub faces_are : All IsNumber j.faces
  pub coords_are : All IsDouble j.coords
  pub limit_is : IsDouble j.limit
  -- points and segments, and of a point no second end: a slip has no bytes for it
  pub kinds_are : All (λ n. n ≤ 1) j.kinds
  pub points : (k : ℕ) → k < piece_count j → get_or j.kinds k 0 ≡ 0 → NoSecond j.coords k

abbrev pub answer_of : Job → Result SlipJob SlipRefusal
answer_of j = Ok (record { vertices = vertex_count j; triangles = triangle_count j; pieces = piece_count j; limit = j.limit })
