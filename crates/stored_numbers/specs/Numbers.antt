-- What a file of stored rows holds: numbers of 4 bytes, and doubles of two numbers. Definitions only.
use Rattle.std.specs.Prelude.{ℕ, ◌+◌, ◌*◌, Bool, true, ◌&&◌, List, [], ◌∷◌, eqb, get_or, Float}
use Rattle.std.specs.Float.{binary64}
use Rattle.std.specs.Float.Ieee.{of_bits}

-- number k, the least significant byte first; what is past the end is 0
abbrev pub stored_number : List ℕ → ℕ → ℕ
stored_number s k = get_or s (4 * k) 0 + 256 * get_or s (4 * k + 1) 0 + 65_536 * get_or s (4 * k + 2) 0 + 16_777_216 * get_or s (4 * k + 3) 0

-- the double at number k, its low half first
abbrev pub double_at : List ℕ → ℕ → Float
double_at s k = of_bits binary64 (stored_number s k + 4_294_967_296 * stored_number s (k + 1))

-- whether all elements of a list come to x
unfoldable pub each_is : {A : Type 0} → (A → ℕ) → ℕ → List A → Bool
each_is g x [] = true
each_is g x (y ∷ l) = eqb (g y) x && each_is g x l
