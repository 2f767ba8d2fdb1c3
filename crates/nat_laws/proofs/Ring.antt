-- Products, squares and powers of natural numbers, for `omega` to go on from. Assumes nothing.
use mathlib.Core.Path.{◌≡◌, refl, subst, subst⁻¹}
use Prim.Native.Nat.{ℕ, ◌+◌, ◌*◌, ◌^◌, ◌≤◌, ◌<◌}
use native.Mathlib.Nat.{add_assoc, add_comm, add_left_comm, mul_assoc, mul_comm, mul_left_comm, mul-add, add-mul, mul-suc, two-mul, le_of_lt, lt_of_le_of_lt, mul-le-mul_left, mul-lt-mul_of_pos_right}
use lib.Pow.{pow-add, pow_pos}

pub ruleset ring = (mul-add, add-mul, mul_assoc, mul_comm, mul_left_comm, add_assoc, add_comm, add_left_comm)

-- of n runs of w elements, each ends within them
pub run_within : (w : ℕ) {k n : ℕ} → k < n → w * k + w ≤ w * n
run_within w {k} {n} h = subst (λ (x : ℕ). x ≤ w * n) (mul-suc w k) (mul-le-mul_left w h)

pub below : (k : ℕ) {a b : ℕ} → a < 2 ^ k → b < 2 ^ k → a * b < 2 ^ (k + k)
below k {a} {b} ha hb =
    subst⁻¹ (λ (n : ℕ). a * b < n) (pow-add 2 k k)
    (lt_of_le_of_lt (mul-le-mul_left a (le_of_lt hb)) (mul-lt-mul_of_pos_right ha (pow_pos k)))

-- a square of two digits
pub square_of : (P a b : ℕ) → (a * P + b) * (a * P + b) ≡ a * a * (P * P) + (a * b * P + a * b * P) + b * b
square_of P a b = simp ring refl

pub step : (s j : ℕ) → (s + j) * (s + j) ≡ s * s + j * (2 * s + j)
step s j = simp (two-mul, ring) refl
