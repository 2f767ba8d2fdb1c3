-- The infinities, as code makes them. Assumes nothing.
use mathlib.Core.Path.{◌≡◌, refl}
use mathlib.Core.Bool.{true, false}
use lib.Ieee.{binary64, inf, neg, div, of_bits}
use Rattle.float64.specs.Scalar.{zero64, one}

pub infinity_is : div binary64 one zero64 ≡ inf false
unfolding div of_bits
infinity_is = refl

pub minus_infinity_is : div binary64 (neg one) zero64 ≡ inf true
unfolding div neg of_bits
minus_infinity_is = refl
