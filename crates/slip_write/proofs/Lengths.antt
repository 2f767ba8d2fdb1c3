-- How many bytes numbers and doubles have. Assumes nothing.
use Prim.Native.Nat.{ℕ}
use mathlib.Core.Path.{◌≡◌, refl}
use lib.ListN.{length}
use lib.Ieee.{Float}
use Rattle.little_endian.specs.Bytes.{number_bytes, double_bytes}

pub length_number : (n : ℕ) → length (number_bytes n) ≡ 4
unfolding number_bytes
length_number n = refl

pub length_double : (x : Float) → length (double_bytes x) ≡ 8
unfolding double_bytes number_bytes
length_double x = refl
