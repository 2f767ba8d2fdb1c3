-- Rust's total_cmp on f64, with every NaN read as one whose sign is clear: by bits, as one natural number, and in the words of IEEE 754.
-- `total_key_less` in proofs/ says that the two agree. The language has one NaN, with no sign: it stands above plus infinity. Definitions only.
use Rattle.std.specs.Prelude.{ℕ, ◌+◌, ◌-◌, Bool, not, cond, ◌&&◌, ◌||◌, ltb, Float}
use Rattle.std.specs.Float.{binary64}
use Rattle.std.specs.Float.Ieee.{to_bits, lt, eq, is_nan}
use Rattle.float64.specs.Scalar.{negative}

-- the weight of the sign's bit
abbrev pub half_range : ℕ
half_range = 0x8000_0000_0000_0000

-- patterns with a clear sign above all the others, whose order is turned round
unfoldable pub turned : ℕ → ℕ
turned b = cond (ltb b half_range) (b + half_range) (0xffff_ffff_ffff_ffff - b)

unfoldable pub total_key : Float → ℕ
unfolding turned
total_key x = turned (to_bits binary64 x)

-- less, or a number before a NaN, or equal with a minus sign before none
unfoldable pub total_less : Float → Float → Bool
unfolding negative
total_less x y = lt x y || (not (is_nan x) && is_nan y || (eq x y && (negative x && not (negative y))))
