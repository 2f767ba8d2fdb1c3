-- The constants are the decimals that they stand for, rounded. Assumes nothing.
use mathlib.Core.Path.{◌≡◌, refl}
use mathlib.Core.Bool.{false}
use Prim.Native.Nat.{◌^◌}
use lib.Ieee.{binary64, round, of_bits}
use Rattle.source.specs.Quadratic.{half, four, eight, negligible}

pub half_is : half ≡ round binary64 false 1 2
unfolding round of_bits
half_is = refl

pub four_is : four ≡ round binary64 false 4 1
unfolding round of_bits
four_is = refl

pub eight_is : eight ≡ round binary64 false 8 1
unfolding round of_bits
eight_is = refl

pub negligible_is : negligible ≡ round binary64 false 1 (10 ^ 13)
unfolding round of_bits
negligible_is = refl
