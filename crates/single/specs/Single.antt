-- Doubles that IEEE 754's single (binary32, Rust's f32) holds exactly. Definitions only.
-- One type has the values of both formats, so a single is the double of the same value: nothing is rounded on the way.
use Rattle.std.specs.Prelude.{Bool, ◌&&◌, Float}
use Rattle.std.specs.Float.{binary32}
use Rattle.std.specs.Float.Ieee.{fits}
use Rattle.std.specs.Float.Ieee.Scale.{finite}

-- a finite value of binary32
unfoldable pub is_single : Float → Bool
is_single x = finite x && fits binary32 x
