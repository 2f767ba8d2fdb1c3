-- The constants are the decimals that they stand for, rounded. Assumes nothing.
use mathlib.Core.Path.{◌≡◌, refl}
use mathlib.Core.Bool.{false}
use Prim.Native.Nat.{◌^◌}
use lib.Ieee.{binary64, round, of_bits}
use Rattle.job_checks.specs.Refusals.{max_coordinate, min_length, min_altitude, max_limit}

pub max_coordinate_is : max_coordinate ≡ round binary64 false 1_000_000 1
unfolding round of_bits
max_coordinate_is = refl

pub min_length_is : min_length ≡ round binary64 false 1 1_000
unfolding round of_bits
min_length_is = refl

pub min_altitude_is : min_altitude ≡ round binary64 false 1 (10 ^ 6)
unfolding round of_bits
min_altitude_is = refl

pub max_limit_is : max_limit ≡ round binary64 false 10_000_000 1
unfolding round of_bits
max_limit_is = refl
