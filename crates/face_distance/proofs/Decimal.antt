-- The tolerance is the decimal that it stands for, rounded. Assumes nothing.
use mathlib.Core.Path.{◌≡◌, refl}
use mathlib.Core.Bool.{false}
use Prim.Native.Nat.{◌^◌}
use lib.Ieee.{binary64, round, of_bits}
use Rattle.face_distance.specs.Entries.{least_segment_square}

pub least_square_is : least_segment_square ≡ round binary64 false 1 (10 ^ 300)
unfolding round of_bits
least_square_is = refl
