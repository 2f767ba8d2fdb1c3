-- The part of a length that is tiny is the decimal that it stands for, rounded. Assumes nothing.
use mathlib.Core.Path.{◌≡◌, refl}
use mathlib.Core.Bool.{false}
use Prim.Native.Nat.{◌^◌}
use lib.Ieee.{Float, binary64, round, of_bits}
use Rattle.float64.specs.Notation.{◌⊗◌}
use Rattle.trim_model.specs.Intervals.{tiny_of}

pub tiny_is : (len : Float) → tiny_of len ≡ round binary64 false 1 (10 ^ 11) ⊗ len
unfolding round of_bits
tiny_is len = refl
