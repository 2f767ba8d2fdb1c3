-- The functions of Rust's f64 that the operators do not give. Definitions only.
use Rattle.std.specs.Prelude.{Bool, false, cond, Float}
use Rattle.std.specs.Float.{nan, inf, fin, binary64}
use Rattle.std.specs.Float.Ieee.{of_bits, lt, neg, is_nan}
use Rattle.std.specs.Float.Ieee.Scale.{finite}

-- 0.0, 1.0 and 2.0, as code writes them
abbrev pub zero64 : Float
zero64 = of_bits binary64 0

abbrev pub one : Float
one = of_bits binary64 0x3ff0_0000_0000_0000

abbrev pub two : Float
two = of_bits binary64 0x4000_0000_0000_0000

-- a minus sign, also of a zero or an infinity
unfoldable pub negative : Float → Bool
negative nan = false
negative (inf s) = s
negative (fin s m e) = s

-- the smaller and the larger: a NaN is dropped, and where both compare equal the left operand is given
unfoldable pub min_of : Float → Float → Float
min_of x y = cond (is_nan x) y (cond (lt y x) y x)

unfoldable pub max_of : Float → Float → Float
max_of x y = cond (is_nan x) y (cond (lt x y) y x)

unfoldable pub abs_of : Float → Float
abs_of nan = nan
abs_of (inf s) = inf false
abs_of (fin s m e) = fin false m e

-- one with the sign of x, also of a zero; a NaN stays
unfoldable pub signum_of : Float → Float
unfolding negative
signum_of x = cond (is_nan x) x (cond (negative x) (neg one) one)

-- x brought up to lo, then down to hi; a NaN stays. Rust panics where lo <= hi does not hold. Here an lo above hi gives hi,
-- and the test of a bound that is a NaN is false.
unfoldable pub clamp_of : Float → Float → Float → Float
clamp_of x lo hi = let y = cond (lt x lo) lo x in cond (lt hi y) hi y

-- a number, and no infinity
abbrev pub is_finite : Float → Bool
is_finite x = finite x
