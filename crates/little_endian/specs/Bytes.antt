-- Numbers of 4 bytes and doubles of 8, the least significant byte first. Definitions only.
use Rattle.std.specs.Prelude.{ℕ, ◌+◌, ◌*◌, ◌/◌, ◌%◌, List, [], ◌∷◌, ◌++◌, length, get_or, drop, Float}
use Rattle.std.specs.Float.{binary64}
use Rattle.std.specs.Float.Ieee.{of_bits, to_bits}
use Rattle.nat_laws.specs.Lists.{list_of}

-- the number whose bytes stand from i on; what is past the end is 0
unfoldable pub number_from : List ℕ → ℕ → ℕ
number_from s i = get_or s i 0 + 256 * get_or s (i + 1) 0 + 65_536 * get_or s (i + 2) 0 + 16_777_216 * get_or s (i + 3) 0

-- the double: the low half of its bit pattern first
unfoldable pub double_from : List ℕ → ℕ → Float
unfolding number_from
double_from s i = of_bits binary64 (number_from s i + 4_294_967_296 * number_from s (i + 4))

-- rows of n, one behind the other
unfoldable pub doubles_from : List ℕ → ℕ → ℕ → List Float
unfolding double_from
doubles_from s i n = list_of n (λ j. double_from s (i + 8 * j))

unfoldable pub numbers_from : List ℕ → ℕ → ℕ → List ℕ
unfolding number_from
numbers_from s i n = list_of n (λ j. number_from s (i + 4 * j))

unfoldable pub bytes_from : List ℕ → ℕ → ℕ → List ℕ
bytes_from s i n = list_of n (λ j. get_or s (i + j) 0)

-- a list with xs in place of as many elements at its front
unfoldable pub put_in_front : {A : Type 0} → List A → List A → List A
put_in_front xs l = xs ++ drop (length xs) l

-- the bytes of a number below 2 ^ 32, and of a double, a NaN's by the pattern of the quiet one with no sign
unfoldable pub number_bytes : ℕ → List ℕ
number_bytes n = n % 256 ∷ n / 256 % 256 ∷ n / 65_536 % 256 ∷ n / 16_777_216 % 256 ∷ []

unfoldable pub double_bytes : Float → List ℕ
unfolding number_bytes
double_bytes x = number_bytes (to_bits binary64 x % 4_294_967_296) ++ number_bytes (to_bits binary64 x / 4_294_967_296)
