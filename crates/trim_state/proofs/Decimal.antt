-- The tolerance is the decimal that it stands for, rounded. Assumes nothing.
use mathlib.Core.Path.{◌≡◌, refl}
use mathlib.Core.Bool.{false}
use Prim.Native.Nat.{◌^◌}
use lib.Ieee.{binary64, round, of_bits}
use Rattle.trim_state.specs.Trace.{near}

pub near_is : near ≡ round binary64 false 1 (10 ^ 9)
unfolding round of_bits
near_is = refl
