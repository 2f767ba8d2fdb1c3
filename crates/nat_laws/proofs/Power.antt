-- Powers of two and of four, squares, and how many digits a number has. Assumes nothing.
use mathlib.Core.Path.{◌≡◌, refl, sym, ap, ◌∙◌, subst}
use Prim.Native.Nat.{ℕ, zero, suc, ◌*◌, ◌^◌, ◌≤◌, ◌<◌}
use native.Mathlib.Nat.{lt_irrefl, lt_of_not-le, lt_of_lt_of_le, lt_of_le_of_lt, le_antisymm, mul-le-mul, mul-pos, mul-mul-mul_comm, pow-suc}
use native.Mathlib.Decide.{dec_le}
use lib.Pow.{pow_pos, pow_mono}
use lib.Ieee.{size}
use lib.Ieee.Digits.{size-lt, size-le}

pub quad : (x : ℕ) → x * x * 4 ≡ x * 2 * (x * 2)
quad x = sym (mul-mul-mul_comm x 2 x 2)

pub four : (t : ℕ) → 4 ^ t ≡ 2 ^ t * 2 ^ t
four zero = refl
four (suc t) = pow-suc 4 t ∙ ap (λ (x : ℕ). x * 4) (four t) ∙ quad (2 ^ t) ∙ ap (λ (x : ℕ). x * x) (sym (pow-suc 2 t))

pub four_pos : (t : ℕ) → 0 < 4 ^ t
four_pos t = subst (λ (x : ℕ). 0 < x) (sym (four t)) (mul-pos (pow_pos t) (pow_pos t))

-- ---- back from powers and squares
pub pow_back : (a b : ℕ) → 2 ^ a < 2 ^ b → a < b
pow_back a b h = go (dec_le b a)
  where
    go : Dec (b ≤ a) → a < b
    go (yes k) = absurd (lt_irrefl (2 ^ a) (lt_of_lt_of_le h (pow_mono k)))
    go (no f) = lt_of_not-le f

pub square_back : (a b : ℕ) → a * a < b * b → a < b
square_back a b h = go (dec_le b a)
  where
    go : Dec (b ≤ a) → a < b
    go (yes k) = absurd (lt_irrefl (a * a) (lt_of_lt_of_le h (mul-le-mul k k)))
    go (no f) = lt_of_not-le f

-- the digits of a number between two powers
pub size_at : (n p : ℕ) → 2 ^ p ≤ n → n < 2 ^ suc p → size n ≡ suc p
size_at n p l h = le_antisymm (size-le n (suc p) h) (pow_back p (size n) (lt_of_le_of_lt l (size-lt n)))

pub scaled : (s t : ℕ) → s * s * 4 ^ t ≡ s * 2 ^ t * (s * 2 ^ t)
scaled s t = ap (λ (x : ℕ). s * s * x) (four t) ∙ mul-mul-mul_comm s s (2 ^ t) (2 ^ t)
