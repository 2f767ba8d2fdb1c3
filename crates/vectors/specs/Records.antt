-- What a file of stored cases holds: numbers of 8 bytes, and floats by their bit patterns. Definitions only.
use Rattle.std.specs.Prelude.{List, [], ◌∷◌, Bool, cond, ℕ, zero, suc, ◌+◌, ◌*◌, take, drop, eqb, Float}
use Rattle.std.specs.Float.{binary64}
use Rattle.std.specs.Float.Ieee.{of_bits, to_bits}

-- the number that bytes stand for, the least significant first
unfoldable pub little_endian : List ℕ → ℕ
little_endian [] = 0
little_endian (b ∷ bs) = b + 256 * little_endian bs

-- number k of a row of numbers of 8 bytes
unfoldable pub word_at : List ℕ → ℕ → ℕ
word_at s k = little_endian (take 8 (drop (8 * k) s))

-- the float whose pattern is number k
unfoldable pub float_at : List ℕ → ℕ → Float
float_at s k = of_bits binary64 (word_at s k)

-- Whether x is the float of the pattern b. There is one NaN, so each NaN agrees with each NaN pattern; +0 and -0 are two floats.
-- `agrees_is` and `agrees_not` in proofs/ say that it decides x ≡ of_bits binary64 b.
unfoldable pub agrees : Float → ℕ → Bool
agrees x b = eqb (to_bits binary64 x) (to_bits binary64 (of_bits binary64 b))

-- at how many of the numbers below n a test fails
unfoldable pub failing : (ℕ → Bool) → ℕ → ℕ
failing holds zero = 0
failing holds (suc n) = failing holds n + cond (holds n) 0 1
