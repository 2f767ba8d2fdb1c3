-- The slips in which every NaN has the pattern that the writer writes: there is one NaN, so of other patterns a job tells nothing. Definitions only.
use Rattle.std.specs.Prelude.{ℕ, ◌+◌, ◌*◌, ◌<◌, true, List, ◌≡◌, get_or}
use Rattle.std.specs.Float.Ieee.{is_nan}
use Rattle.little_endian.specs.Bytes.{number_from, double_from}
use Rattle.slip.specs.Format.{vertex_count_in, piece_count_in, vertices_from, piece_from}

abbrev pub IsByte : ℕ → Type 0
IsByte n = n < 256

-- the bit pattern of the double from byte i on
abbrev pub pattern_from : List ℕ → ℕ → ℕ
pattern_from s i = number_from s i + 4_294_967_296 * number_from s (i + 4)

-- that double is a number or an infinity, or its pattern is the one of the quiet NaN with no sign
abbrev pub PlainAt : List ℕ → ℕ → Type 0
PlainAt s i = is_nan (double_from s i) ≡ true → pattern_from s i ≡ 0x7ff8_0000_0000_0000

-- so are all doubles of the slip: the vertices', those of the ends of its pieces, the limit
pub record Plain (s : List ℕ) : Type 0 where
  pub vertices : (k : ℕ) → k < 3 * vertex_count_in s → PlainAt s (vertices_from + 8 * k)
  pub ends : (i k : ℕ) → i < piece_count_in s → k < 3 → PlainAt s (piece_from s i + 5 + 8 * k)
  pub second_ends : (i k : ℕ) → i < piece_count_in s → get_or s (piece_from s i) 0 ≡ 1 → k < 3 → PlainAt s (piece_from s i + 29 + 8 * k)
  pub limit : PlainAt s (piece_from s (piece_count_in s))
