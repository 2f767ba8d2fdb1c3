-- What a value is known to be at least without its roots being taken. Definitions only.
use Rattle.std.specs.Prelude.{not, T, Float}
use Rattle.std.specs.Float.Ieee.{is_nan, le}
use Rattle.float64.specs.Scalar.{max_of, abs_of}

-- r is at most v, where both are numbers
abbrev pub UpTo : Float → Float → Type 0
UpTo r v = T (not (is_nan r)) → T (not (is_nan v)) → T (le r v)

-- the longer leg of a right angle: its hypotenuse is no shorter
unfoldable pub longer_leg : Float → Float → Float
longer_leg a b = max_of (abs_of a) (abs_of b)
