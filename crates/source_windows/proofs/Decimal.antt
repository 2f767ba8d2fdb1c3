-- The tolerances are the decimals that they stand for, rounded. Assumes nothing.
use mathlib.Core.Path.{◌≡◌, refl}
use mathlib.Core.Bool.{false}
use Prim.Native.Nat.{◌^◌}
use lib.Ieee.{binary64, round, of_bits}
use Rattle.source_windows.specs.Tolerance.{narrowest, near_edge, upright}

pub narrowest_is : narrowest ≡ round binary64 false 1 (10 ^ 12)
unfolding round of_bits
narrowest_is = refl

pub near_edge_is : near_edge ≡ round binary64 false 1 (10 ^ 9)
unfolding round of_bits
near_edge_is = refl

pub upright_is : upright ≡ round binary64 false 1 (10 ^ 15)
unfolding round of_bits
upright_is = refl
