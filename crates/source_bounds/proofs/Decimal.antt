-- The constants are the numbers that they stand for, rounded. Assumes nothing.
use mathlib.Core.Path.{◌≡◌, refl}
use mathlib.Core.Bool.{false}
use Prim.Native.Nat.{◌+◌, ◌-◌, ◌^◌}
use lib.Ieee.{binary64, round, of_bits}
use Rattle.source_bounds.specs.Bounds.{greatest_bound, under, over, least_square}

pub greatest_is : greatest_bound ≡ round binary64 false (10 ^ 100) 1
unfolding round of_bits
greatest_is = refl

pub least_square_is : least_square ≡ round binary64 false 1 (10 ^ 100)
unfolding round of_bits
least_square_is = refl

pub under_is : under ≡ round binary64 false (2 ^ 41 - 1) (2 ^ 41)
unfolding round of_bits
under_is = refl

pub over_is : over ≡ round binary64 false (2 ^ 41 + 1) (2 ^ 41)
unfolding round of_bits
over_is = refl
