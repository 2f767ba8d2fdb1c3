-- Whether an interval holding [X, Y], as 1 or 0, by ranks: to be added up over a list. Assumes nothing.
use Prim.Native.Nat.{ℕ, ◌+◌, ◌≤◌, ◌<◌, ◌-◌}
use mathlib.Core.Path.{◌≡◌}
use native.Mathlib.Decide.{dec_le}
use native.Mathlib.Nat.{le_refl}
use native.Mathlib.Omega.{arith}

-- 1 where a ≤ X and Y ≤ b, and 0 elsewhere
pub has : ℕ → ℕ → ℕ → ℕ → ℕ
has X Y a b = 1 - ((a - X) + (Y - b))

module _ (X Y : ℕ) where
  pub has_yes : {a b : ℕ} → a ≤ X → Y ≤ b → has X Y a b ≡ 1
  unfolding has
  has_yes h k = omega arith

  pub has_left : (a b : ℕ) → X < a → has X Y a b ≡ 0
  unfolding has
  has_left a b h = omega arith

  pub has_right : (a b : ℕ) → b < Y → has X Y a b ≡ 0
  unfolding has
  has_right a b h = omega arith

  pub has_one : (a b : ℕ) → has X Y a b ≤ 1
  unfolding has
  has_one a b = omega arith

  pub has_in : (a b a' b' : ℕ) → a ≤ a' → b' ≤ b → has X Y a' b' ≤ has X Y a b
  unfolding has
  has_in a b a' b' h k = omega arith

  pub has_two : X < Y → {a m b : ℕ} → a ≤ m → m ≤ b → has X Y a m + has X Y m b ≤ has X Y a b
  has_two p {a} {m} {b} h k = elim (dec_le m X) [
    | yes l ↦ let z : m < Y = omega arith in omega (arith, has_right a m z, has_in a b m b h (le_refl b))
    | no f ↦ let z : X < m = omega arith in omega (arith, has_left m b z, has_in a b a m (le_refl a) k)
  ]

  pub data View (a b : ℕ) : Type 0 where
    holding : a ≤ X → Y ≤ b → has X Y a b ≡ 1 → View a b
    missing : (a ≤ X → Y ≤ b → ⊥) → has X Y a b ≡ 0 → View a b

  pub view : (a b : ℕ) → View a b
  view a b = elim (dec_le a X) [
    | yes h ↦ elim (dec_le Y b) [ yes k ↦ holding h k (has_yes h k) | no f ↦ missing (λ i j. f j) (has_right a b (omega arith)) ]
    | no f ↦ missing (λ i j. f i) (has_left a b (omega arith))
  ]
