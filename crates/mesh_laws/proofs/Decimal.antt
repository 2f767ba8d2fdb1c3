-- The longest edge is the number that it stands for. Assumes nothing.
use mathlib.Core.Path.{◌≡◌, refl}
use mathlib.Core.Bool.{false}
use lib.Ieee.{binary64, round, of_bits}
use Rattle.mesh_laws.specs.Bounds.{max_length}

pub max_length_is : max_length ≡ round binary64 false 3_464_102 1
unfolding round of_bits
max_length_is = refl
