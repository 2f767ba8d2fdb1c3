-- The tolerance is the decimal that it stands for, rounded. Assumes nothing.
use mathlib.Core.Path.{◌≡◌, refl}
use mathlib.Core.Bool.{false}
use Prim.Native.Nat.{◌^◌}
use lib.Ieee.{binary64, round, of_bits}
use Rattle.better.specs.Cutting.{tolerance}

pub tolerance_is : tolerance ≡ round binary64 false 1 (10 ^ 10)
unfolding round of_bits
tolerance_is = refl
