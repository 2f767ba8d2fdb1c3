-- 0.0, 1.0 and 2.0 are the numbers that they stand for. Assumes nothing.
use mathlib.Core.Path.{◌≡◌, refl}
use mathlib.Core.Bool.{false}
use lib.Ieee.{binary64, round, of_bits}
use Rattle.float64.specs.Scalar.{zero64, one, two}

pub zero_decimal : zero64 ≡ round binary64 false 0 1
unfolding round of_bits
zero_decimal = refl

pub one_decimal : one ≡ round binary64 false 1 1
unfolding round of_bits
one_decimal = refl

pub two_decimal : two ≡ round binary64 false 2 1
unfolding round of_bits
two_decimal = refl
