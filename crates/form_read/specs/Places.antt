-- The job that stands in a slip in groups. Definitions only.
use Rattle.std.specs.Prelude.{ℕ, zero, suc, ◌+◌, ◌-◌, ◌*◌, Bool, true, false, cond, List, [], ◌∷◌, ◌++◌, eqb, length, get_or, Float, Result, Ok, Err}
use Rattle.nat_laws.specs.Lists.{list_of}
use Rattle.float64.specs.Scalar.{zero64}
use Rattle.job_checks.specs.Job.{Job}
use Rattle.little_endian.specs.Bytes.{double_from, doubles_from, bytes_from}
use Rattle.groups.specs.declared.Form.TheVariants.{Groups}
use Rattle.groups.specs.declared.NumberRefusal.{NumberRefusal}
use Rattle.groups.specs.Groups.{number_at}
use Rattle.slip_moves.specs.Moves.{Part, put, stop, ends_size}

-- a number that was read, and the place behind it
abbrev pub value_read : Result (ℕ × ℕ) NumberRefusal → ℕ
value_read (Ok (n, next)) = n
value_read (Err why) = 0

abbrev pub place_behind : Result (ℕ × ℕ) NumberRefusal → ℕ
place_behind (Ok (n, next)) = next
place_behind (Err why) = 0

abbrev pub is_put : Part → Bool
is_put (put j bytes) = true
is_put (stop why) = false

module _ (s : List ℕ) where
  -- where number k of those from byte i on stands, and the first n of them
  unfoldable pub number_place : ℕ → ℕ → ℕ
  number_place i zero = i
  number_place i (suc k) = place_behind (number_at Groups s (number_place i k))

  unfoldable pub numbers_in : ℕ → ℕ → List ℕ
  numbers_in i n = list_of n (λ k. value_read (number_at Groups s (number_place i k)))

  -- where the ends of the piece at byte i stand, behind its face; where piece k of those from byte i on stands
  unfoldable pub ends_from : ℕ → ℕ
  ends_from i = place_behind (number_at Groups s (i + 1))

  unfoldable pub piece_place : ℕ → ℕ → ℕ
  piece_place i zero = i
  piece_place i (suc k) = ends_from (piece_place i k) + ends_size (get_or s (piece_place i k) 0)

  -- six coordinates of the piece at byte i: of a point the last three are 0
  unfoldable pub second_in : ℕ → ℕ → Float
  second_in i k = cond (eqb (get_or s i 0) 0) zero64 (double_from s (ends_from i + k))

  unfoldable pub ends_in : ℕ → List Float
  ends_in i = double_from s (ends_from i) ∷ double_from s (ends_from i + 8) ∷ double_from s (ends_from i + 16) ∷ second_in i 24 ∷ second_in i 32 ∷ second_in i 40 ∷ []

  -- kinds, faces and coordinates of n pieces from byte i on
  unfoldable pub kinds_from : ℕ → ℕ → List ℕ
  kinds_from i n = list_of n (λ k. get_or s (piece_place i k) 0)

  unfoldable pub faces_from : ℕ → ℕ → List ℕ
  faces_from i n = list_of n (λ k. value_read (number_at Groups s (piece_place i k + 1)))

  unfoldable pub coords_from : ℕ → ℕ → List Float
  coords_from i zero = []
  coords_from i (suc n) = coords_from i n ++ ends_in (piece_place i n)

  -- where the flags and the pieces start, by the counts of vertices and triangles and the place behind the counts
  unfoldable pub flags_place : ℕ → ℕ → ℕ → ℕ
  flags_place v t i = number_place (i + 24 * v) (3 * t)

  unfoldable pub first_piece : ℕ → ℕ → ℕ → ℕ
  first_piece v t i = flags_place v t i + v

  -- the job of so many vertices, triangles and pieces
  unfoldable pub job_at : ℕ → ℕ → ℕ → ℕ → Job
  job_at v t p i = record {
    vertices = doubles_from s i (3 * v);
    triangles = numbers_in (i + 24 * v) (3 * t);
    flags = bytes_from s (flags_place v t i) v;
    kinds = kinds_from (first_piece v t i) p;
    faces = faces_from (first_piece v t i) p;
    coords = coords_from (first_piece v t i) p;
    limit = double_from s (length s - 8);
  }
