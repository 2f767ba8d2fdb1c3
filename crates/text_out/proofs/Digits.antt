-- The digits that `io::decimal` makes are those of `decimal`. Assumes nothing.
use Prim.Native.Nat.{ℕ, zero, suc, ◌+◌, ◌-◌, ◌*◌, ◌/◌, ◌%◌, ◌^◌, ◌≤◌, ◌<◌}
use native.Mathlib.Nat.{div-lt_iff_lt-mul, le-div_iff_mul-le, pow-succ', pow-le-pow_right}
use native.Mathlib.Omega.{arith}
use native.Mathlib.Decide.{dec_le}
use mathlib.Core.List.{[], ◌∷◌, ◌++◌}
use mathlib.Core.Path.{◌≡◌, ap}
use borrow.Author.Tests.{lt-ltb, le-ltb}
use Rattle.io.specs.Digits.{last_digits, IsDigitCount, hex_digit_ascii}
use Rattle.text_out.specs.Text.{digits_of}

pos10 : (j : ℕ) → 0 < 10 ^ j
pos10 zero = omega arith
pos10 (suc j) = rw (pow-succ' 10 j) (omega (arith, pos10 j))

digit : (n : ℕ) → hex_digit_ascii (n % 10) ≡ 48 + n % 10
digit n = rw (lt-ltb (n % 10) 10 (omega arith))

-- ten or more: the digits of a tenth, and one more
more : (j n : ℕ) → IsDigitCount 10 1 n (suc (suc j)) → (10 ≤ n) × IsDigitCount 10 1 (n / 10) (suc j)
more j n f =
    let back : suc (suc j) - 1 ≡ suc j = omega arith in
    let low : 10 ^ suc j ≤ n = rw back at (f.2 (omega arith)) in
    let power : 10 ^ suc j ≡ 10 * 10 ^ j = pow-succ' 10 j in
    let high : n < 10 * 10 ^ suc j = rw (pow-succ' 10 (suc j)) at f.1 in
    let tenth : 10 ^ j ≤ n / 10 = (le-div_iff_mul-le {k = 10} {x = 10 ^ j} {y = n} (omega arith)).1 (omega (arith, low, power)) in
    let less : n / 10 < 10 ^ suc j = (div-lt_iff_lt-mul {k = 10} {x = n} {y = 10 ^ suc j} (omega arith)).1 (omega (arith, high)) in
    let again : suc j - 1 ≡ j = omega arith in
    (omega (arith, low, power, pos10 j), (omega arith, less, λ h. rw again tenth))

pub digits_are : (k most n : ℕ) → k ≤ most → IsDigitCount 10 1 n k → last_digits 10 k n ≡ digits_of most n
unfolding digits_of
digits_are zero most n h f = absurd (omega (arith, f.0))
digits_are (suc k) zero n h f = absurd (omega arith)
digits_are (suc zero) (suc most) n h f = rw (digit n, lt-ltb n 10 f.1)
digits_are (suc (suc j)) (suc most) n h f =
    let m = more j n f in rw (digit n, le-ltb n 10 m.0) (ap (λ t. t ++ ((48 + n % 10) ∷ [])) (digits_are (suc j) most (n / 10) (omega arith) m.1))

-- no number has more digits than its size and one
below_power : (j : ℕ) → j < 10 ^ j
below_power zero = omega arith
below_power (suc j) = rw (pow-succ' 10 j) (omega (arith, below_power j))

pub at_most_all : (k n : ℕ) → IsDigitCount 10 1 n k → k ≤ suc n
at_most_all k n f = go (dec_le k 1) where
  go : Dec (k ≤ 1) → k ≤ suc n
  go (yes l) = omega arith
  go (no l) = omega (arith, l, below_power (k - 1), f.2 (omega (arith, l)))

-- a number of 64 bits has at most 20
pub at_most_20 : (k n : ℕ) → n < 2 ^ 64 → IsDigitCount 10 1 n k → k ≤ 20
at_most_20 k n h f = go (dec_le k 20) where
  go : Dec (k ≤ 20) → k ≤ 20
  go (yes l) = l
  go (no l) = let p : 10 ^ 20 ≤ 10 ^ (k - 1) = pow-le-pow_right {n = 10} (omega arith) {i = 20} {j = k - 1} (omega (arith, l)) in absurd (omega (arith, p, h, f.2 (omega (arith, l))))
