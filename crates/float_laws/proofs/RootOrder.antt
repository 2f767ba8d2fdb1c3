-- The rounded square root keeps the order. So a root is compared with a bound by comparing its argument with another bound, and no root is taken. Assumes nothing.
--     sqrt_mono (0 ≤ x ≤ y gives √x ≤ √y), LeastRoot c t u (t is the least double whose root is c or more, and u the double before it), sqrt_bound (c ≤ √x exactly where t ≤ x, of every double x, a NaN and those below 0 among them)
use Prim.Native.Nat.{ℕ, zero, suc, ◌+◌, ◌*◌, ◌^◌, ◌≤◌, ◌<◌}
use mathlib.Core.Bool.{Bool, true, false}
use mathlib.Core.Logic.{inl, inr}
use mathlib.Core.Path.{◌≡◌, refl, sym, ap, ◌∙◌, subst}
use native.Mathlib.Decide.{dec_le}
use native.Mathlib.Nat.{le_refl, zero-mul, mul-pos, mul_assoc, mul_right_comm, mul-le-mul_right, mul-lt-mul_of_pos_right, lt_of_not-le, eq-or-lt_of_le}
use native.Mathlib.Omega.{arith}
use lib.Dec.{T, not_T}
use lib.IntN.{ℤ}
use lib.Pow.{pow_pos}
use lib.Ieee.{Float, nan, inf, fin, Format, binary64, low, up, down, le, lt, fits, is_nan, of_bits}
use lib.Ieee.Bits.{is_true, is_false}
use lib.Ieee.Fits.{up_pos, down_pos}
use lib.Ieee.Order.{le_of_values}
use Rattle.nat_laws.proofs.Power.{four_pos}
use Rattle.root_spec.specs.Root.{sqrt_of}
use Rattle.root_spec.specs.Nearest.{NearestRoot}
use Rattle.root_spec.proofs.Correct.{nearest_unique, sqrt_nearest, sqrt_of_value, sqrt_zero, sqrt_special, sqrt_negative}
use Rattle.float64.specs.Scalar as scalar
use Rattle.float64.specs.TotalOrder.{total_key}
use Rattle.float_laws.proofs.Signed.{signed, unsigned, zero_of}
use Rattle.float_laws.proofs.Order as order
use Rattle.float_laws.proofs.Order.{Number, past_infinity, le_number_r, lt_number_l, le_or_lt, lt_not_le}
use Rattle.float_laws.proofs.Total.{lt_key, key_le}
use Rattle.float_laws.proofs.Roots.{no_minus, no_sign, sqrt_nonneg}

same : (a b : Bool) → (T a → T b) → (T b → T a) → a ≡ b
same true b f g = sym (is_true b (f tt))
same false b f g = sym (is_false b (not_T b g))

-- ---- of two fractions
-- where a / c is below b / d, no S / (4 * F) is at most a / c and at least b / d
crossed : (S F a c b d : ℕ) → 0 < F → S * c ≤ 4 * (a * F) → 4 * (b * F) ≤ S * d → a * d < b * c → ⊥
crossed S F a c b d P h k l = omega (arith, mul-le-mul_right d h, mul-le-mul_right c k, mul-lt-mul_of_pos_right l P, mul_right_comm S c d, move a d, move b c)
  where
    move : (x y : ℕ) → 4 * (x * F) * y ≡ 4 * (x * y * F)
    move x y = mul_assoc 4 (x * F) y ∙ ap (λ (z : ℕ). 4 * z) (mul_right_comm x F y)

-- the root of the smaller one is no larger: else it would be at or above the middle of the two, and the other root at or below it
roots_rise : (f : Format) (a c b d : ℕ) (r s : Float) (x : NearestRoot f a c r) (y : NearestRoot f b d s) → a * d < b * c → x.value ≤ y.value
roots_rise f a c b d r s x y l = elim (dec_le x.value y.value) [
  | yes h ↦ h
  | no h ↦
      let A = x.value in
      let B = y.value in
      let S = (A + B) * (A + B) in
      let i : B + A ≡ A + B = omega arith in
      let k = y.above r A x.holds (lt_of_not-le h) in
      absurd (crossed S (4 ^ low f) a c b d (four_pos (low f)) (x.below s B y.holds (lt_of_not-le h)) (subst (λ (z : ℕ). 4 * (b * 4 ^ low f) ≤ z * z * d) i k) l)
]

finite_mono : (f : Format) (m : ℕ) (e : ℤ) (n : ℕ) (d : ℤ) → T (fits f (fin false m e)) → T (fits f (fin false n d)) → m * up e * down d ≤ n * up d * down e
    → T (le (sqrt_of f (fin false m e)) (sqrt_of f (fin false n d)))
finite_mono f m e n d p q h =
    let r = sqrt_of f (fin false m e) in
    let s = sqrt_of f (fin false n d) in
    let x = sqrt_of_value f m e p in
    let y = sqrt_of_value f n d q in
    let P = pow_pos (low f) in
    elim (eq-or-lt_of_le h) [
      | inl i ↦
          let z : r ≡ s = nearest_unique f (m * up e) (down e) r s (down_pos e) x (sqrt_nearest f (fin false n d) (m * up e) (down e) (down_pos e) q (refl, sym i)) in
          subst (λ (v : Float). T (le r v)) z (le_of_values r r x.value (2 ^ low f) x.value (2 ^ low f) P P x.holds.1 x.holds.1 (le_refl (x.value * 2 ^ low f)))
      | inr l ↦
          le_of_values r s x.value (2 ^ low f) y.value (2 ^ low f) P P x.holds.1 y.holds.1
          (mul-le-mul_right (2 ^ low f) (roots_rise f (m * up e) (down e) (n * up d) (down d) r s x y l))
    ]

-- ---- of all values from 0 on, -0 among them
at_most_infinity : (x : Float) → Number x → T (le x (inf false))
unfolding le is_nan
at_most_infinity nan a = a
at_most_infinity (inf true) a = tt
at_most_infinity (inf false) a = tt
at_most_infinity (fin s m e) a = tt

minus_zero : (e : ℤ) → T (le (fin true 0 e) scalar.zero64)
unfolding le of_bits
minus_zero e = unsigned true (0 * up e * 1) false (0 * 1 * down e) tt

-- of two finite values from 0 on, as fractions
pub le_fractions : (m : ℕ) (e : ℤ) (n : ℕ) (d : ℤ) → T (le (fin false m e) (fin false n d)) → m * up e * down d ≤ n * up d * down e
unfolding le
le_fractions m e n d h = signed false (m * up e * down d) false (n * up d * down e) h

not_above : (m : ℕ) (e : ℤ) (n : ℕ) (d : ℤ) → T (le (fin false m e) (fin true n d)) → m ≡ 0
unfolding le
not_above m e n d h = zero_of m (up e) (up_pos e) (zero_of (m * up e) (down d) (down_pos d) (signed false (m * up e * down d) true (n * up d * down e) h).0)

between_zeros : (f : Format) (m : ℕ) (e : ℤ) (n : ℕ) (d : ℤ) → m ≡ 0 → n ≡ 0 → T (le (fin false m e) (fin true n d)) → T (le (sqrt_of f (fin false m e)) (sqrt_of f (fin true n d)))
between_zeros f m e n d y z h = rw (y, z, sqrt_zero f false e, sqrt_zero f true d) (rw (y, z) at h)

from_minus_zero : (f : Format) (m : ℕ) (e : ℤ) (r : Float) → m ≡ 0 → T (le scalar.zero64 r) → T (le (sqrt_of f (fin true m e)) r)
from_minus_zero f m e r z h = rw (z, sqrt_zero f true e) (order.le_trans (fin true 0 e) scalar.zero64 r (minus_zero e) h)

pub sqrt_mono : (f : Format) (x y : Float) → T (fits f x) → T (fits f y) → T (le scalar.zero64 x) → T (le x y) → T (le (sqrt_of f x) (sqrt_of f y))
unfolding is_nan
sqrt_mono f x nan p q h k = absurd (le_number_r x nan k)
sqrt_mono f x (inf true) p q h k = absurd (no_minus (order.le_trans scalar.zero64 x (inf true) h k))
sqrt_mono f x (inf false) p q h k = rw (sqrt_special f).0 (at_most_infinity (sqrt_of f x) (le_number_r scalar.zero64 (sqrt_of f x) (sqrt_nonneg f x h)))
sqrt_mono f nan (fin t n d) p q h k = absurd (le_number_r scalar.zero64 nan h)
sqrt_mono f (inf true) (fin t n d) p q h k = absurd (no_minus h)
sqrt_mono f (inf false) (fin t n d) p q h k = absurd (past_infinity t n d k)
sqrt_mono f (fin true m e) (fin t n d) p q h k = from_minus_zero f m e (sqrt_of f (fin t n d)) (no_sign m e h) (sqrt_nonneg f (fin t n d) (order.le_trans scalar.zero64 (fin true m e) (fin t n d) h k))
sqrt_mono f (fin false m e) (fin true n d) p q h k = between_zeros f m e n d (not_above m e n d k) (no_sign n d (order.le_trans scalar.zero64 (fin false m e) (fin true n d) h k)) k
sqrt_mono f (fin false m e) (fin false n d) p q h k = finite_mono f m e n d p q (le_fractions m e n d k)

-- ---- a root beside a bound
-- what has a root is not below zero
rooted_from_zero : (f : Format) (x : Float) → Number (sqrt_of f x) → T (le scalar.zero64 x)
unfolding sqrt_of le is_nan of_bits
rooted_from_zero f nan a = a
rooted_from_zero f (inf true) a = a
rooted_from_zero f (inf false) a = tt
rooted_from_zero f (fin false m e) a = unsigned false (0 * 1 * down e) false (m * up e * 1) (omega (arith, zero-mul (down e)))
rooted_from_zero f (fin true zero e) a = unsigned false (0 * 1 * down e) true (0 * up e * 1) (omega (arith, zero-mul (down e)), omega (arith, zero-mul (up e)))
rooted_from_zero f (fin true (suc m) e) a = absurd (subst Number (sqrt_negative f (fin true (suc m) e) (suc m * up e) (down e) (mul-pos (omega arith) (up_pos e)) (down_pos e) (refl, refl)) a)

pub record LeastRoot (c t u : Float) : Type 0 where
  pub held : T (fits binary64 t)
  pub held_before : T (fits binary64 u)
  pub next : total_key t ≡ suc (total_key u)
  pub reaches : T (le c (sqrt_of binary64 t))
  pub falls_short : T (lt (sqrt_of binary64 u) c)

module _ (c t u : Float) (l : LeastRoot c t u) (x : Float) (p : T (fits binary64 x)) where
  from_zero : T (le scalar.zero64 t)
  from_zero = rooted_from_zero binary64 t (le_number_r c (sqrt_of binary64 t) l.reaches)

  reached : T (le t x) → T (le c (sqrt_of binary64 x))
  reached h = order.le_trans c (sqrt_of binary64 t) (sqrt_of binary64 x) l.reaches (sqrt_mono binary64 t x l.held p from_zero h)

  -- a double below t is at most u
  back : T (le c (sqrt_of binary64 x)) → T (le t x)
  back h =
      let r = sqrt_of binary64 x in
      let s = sqrt_of binary64 u in
      let z = rooted_from_zero binary64 x (le_number_r c r h) in
      let y = rooted_from_zero binary64 u (lt_number_l s c l.falls_short) in
      elim (le_or_lt t x (le_number_r scalar.zero64 t from_zero) (le_number_r scalar.zero64 x z)) [
        | inl k ↦ k
        | inr k ↦
            let i : total_key x ≤ total_key u = omega (arith, lt_key x t p l.held k, l.next) in
            let j = key_le x u p l.held_before (le_number_r scalar.zero64 x z) (le_number_r scalar.zero64 u y) i in
            absurd (lt_not_le s c l.falls_short (order.le_trans c r s h (sqrt_mono binary64 x u p l.held_before z j)))
      ]

  pub sqrt_bound : le c (sqrt_of binary64 x) ≡ le t x
  sqrt_bound = same (le c (sqrt_of binary64 x)) (le t x) back reached
