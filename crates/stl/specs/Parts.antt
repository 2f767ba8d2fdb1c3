-- What the private functions of reading and writing ask. Definitions only.
use Rattle.std.specs.Prelude.{ℕ, ◌+◌, ◌*◌, ◌≤◌, ◌<◌, ◌≡◌, false, List, T, length, get_or, Float}
use Rattle.std.specs.Float.{nan}
use Rattle.job_checks.specs.Any.{any_below}
use Rattle.single.specs.Single.{is_single}
use Rattle.stl_format.specs.Format.{record_count, file_length, bytes_not_finite}

-- vertex a is there, and singles hold all coordinates
pub record Writable (v : List Float) (a : ℕ) : Type 0 where
  pub there : 3 * a + 3 ≤ length v
  pub singles : (i : ℕ) → i < length v → T (is_single (get_or v i nan))

abbrev pub WritableTriangles : List Float → List ℕ → Type 0
WritableTriangles v t = (h : ℕ) → h < length t → Writable v (get_or t h 0)

-- a file of n records that 40 to 42 and the first half of 43 passed
pub record CheckedFile (s : List ℕ) (n : ℕ) : Type 0 where
  pub counted : n ≡ record_count s
  pub long : length s ≡ file_length n
  pub finite : any_below (bytes_not_finite s) (3 * n) ≡ false
  pub few : n ≤ 131070
