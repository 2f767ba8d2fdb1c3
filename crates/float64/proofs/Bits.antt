-- The bits of a double: a sign, and a pattern that grows with the magnitude. Assumes nothing.
use Prim.Native.Nat.{ℕ, ◌+◌, ◌*◌, ◌-◌, ◌/◌, ◌%◌, ◌^◌, ◌<◌, ◌≤◌}
use mathlib.Core.Bool.{Bool, true, false, cond}
use mathlib.Core.Path.{◌≡◌, refl, sym, ap, ◌∙◌}
use mathlib.Core.Logic.{◌≢◌}
use native.Mathlib.Omega.{arith}
use native.Mathlib.Decide.{dec_le}
use native.Mathlib.Nat.{le_trans, le_of_eq, lt_of_le_of_lt, lt_of_not-le, le-div_iff_mul-le, mul-le-mul_right, add_assoc}
use lib.Pow.{pow-add, pow_pos}
use lib.Dec.{T, ltb}
use lib.IntN.{ℤ}
use lib.Ieee.{Float, nan, inf, fin, binary64, up, down, size, to_bits, of_bits, fits, is_nan}
use lib.Ieee.Digits.{size-lt, size-le, size_reaches}
use lib.Ieee.Fits.{kept-lt}
use lib.Ieee.Bits.{of_bits-to_bits, to_bits-lt, nan_bits_above, nan_bits_is}
use lib.Ieee.Nearest.{div_mono}
use borrow.Author.Tests.{lt-ltb, le-ltb, ltb-false}
use Rattle.float64.specs.TotalOrder.{half_range}
use Rattle.root_spec.proofs.Units.{FitsIn, fits_in, fits_either, ulps, ulps_le, le_ulps}

-- the pattern of a magnitude of n ulps: how many digits are dropped, above the 53 that are kept, whose leading one adds to it
unfoldable pub pattern : ℕ → ℕ
pattern n = (size n - 53) * 0x10_0000_0000_0000 + n / 2 ^ (size n - 53)

size_mono : (a b : ℕ) → a ≤ b → size a ≤ size b
size_mono a b h = size-le a (size b) (lt_of_le_of_lt h (size-lt b))

-- where digits are dropped, 53 are left
full : (n : ℕ) → 0 < size n - 53 → 0x10_0000_0000_0000 ≤ n / 2 ^ (size n - 53)
full n h =
    let k = size n - 53 in
    let a : 2 ^ (52 + k) ≤ n = size_reaches n (52 + k) (omega arith) in
    (le-div_iff_mul-le (pow_pos k)).1 (le_trans (le_of_eq (sym (pow-add 2 52 k))) a)

pub pattern_mono : (a b : ℕ) → a ≤ b → pattern a ≤ pattern b
unfolding pattern
pattern_mono a b h = go (dec_le (size b - 53) (size a - 53)) where
  go : Dec (size b - 53 ≤ size a - 53) → (size a - 53) * 0x10_0000_0000_0000 + a / 2 ^ (size a - 53) ≤ (size b - 53) * 0x10_0000_0000_0000 + b / 2 ^ (size b - 53)
  go (yes x) =
      let e : size b - 53 ≡ size a - 53 = omega (arith, x, size_mono a b h) in
      let d : a / 2 ^ (size a - 53) ≤ b / 2 ^ (size a - 53) = div_mono a (2 ^ (size a - 53)) b (2 ^ (size a - 53)) (pow_pos (size a - 53)) (pow_pos (size a - 53)) (mul-le-mul_right (2 ^ (size a - 53)) h) in
      rw e (omega (arith, d))
  go (no x) =
      let p : a / 2 ^ (size a - 53) < 0x20_0000_0000_0000 = kept-lt 53 a in
      omega (arith, p, x, full b (omega (arith, x)))

-- ---- the bits of a finite value
pub to_bits_fin : (s : Bool) (m : ℕ) (e : ℤ) → to_bits binary64 (fin s m e) ≡ cond s half_range 0 + pattern (ulps binary64 m e)
unfolding to_bits pattern ulps
to_bits_fin s m e = add_assoc (cond s half_range 0) _ _

pub pattern_small : (s : Bool) (m : ℕ) (e : ℤ) → T (fits binary64 (fin s m e)) → pattern (ulps binary64 m e) < half_range
pattern_small s m e h =
    let a : to_bits binary64 (fin true m e) < 0x1_0000_0000_0000_0000 = to_bits-lt binary64 (fin true m e) (fits_either binary64 s true m e h) in
    omega (arith, a, to_bits_fin true m e)

-- the pattern tells the magnitude
unfoldable ulps_of : Float → ℕ
ulps_of nan = 0
ulps_of (inf s) = 0
ulps_of (fin s m e) = ulps binary64 m e

pattern_same : (s : Bool) (m : ℕ) (e : ℤ) (n : ℕ) (d : ℤ) → T (fits binary64 (fin s m e)) → T (fits binary64 (fin s n d))
    → pattern (ulps binary64 m e) ≡ pattern (ulps binary64 n d) → ulps binary64 m e ≡ ulps binary64 n d
unfolding ulps_of
pattern_same s m e n d p q h =
    let a : to_bits binary64 (fin s m e) ≡ to_bits binary64 (fin s n d) = to_bits_fin s m e ∙ ap (λ t. cond s half_range 0 + t) h ∙ sym (to_bits_fin s n d) in
    ap ulps_of (sym (of_bits-to_bits binary64 (fin s m e) p) ∙ ap (of_bits binary64) a ∙ of_bits-to_bits binary64 (fin s n d) q)

-- of two magnitudes that a double holds, the patterns compare as the cross products do
module _ (s : Bool) (m : ℕ) (e : ℤ) (n : ℕ) (d : ℤ) (p : T (fits binary64 (fin s m e))) (q : T (fits binary64 (fin s n d))) where
  pub cross : ltb (pattern (ulps binary64 m e)) (pattern (ulps binary64 n d)) ≡ ltb (m * up e * down d) (n * up d * down e)
  cross = go (dec_le (ulps binary64 n d) (ulps binary64 m e))
    where
      H : FitsIn binary64 m e
      H = fits_in binary64 s m e p

      K : FitsIn binary64 n d
      K = fits_in binary64 s n d q

      go : Dec (ulps binary64 n d ≤ ulps binary64 m e) → ltb (pattern (ulps binary64 m e)) (pattern (ulps binary64 n d)) ≡ ltb (m * up e * down d) (n * up d * down e)
      go (yes z) =
          le-ltb (pattern (ulps binary64 m e)) (pattern (ulps binary64 n d)) (pattern_mono (ulps binary64 n d) (ulps binary64 m e) z)
          ∙ sym (le-ltb (m * up e * down d) (n * up d * down e) (ulps_le binary64 n d m e K H z))
      go (no z) =
          let c : pattern (ulps binary64 m e) ≤ pattern (ulps binary64 n d) = pattern_mono (ulps binary64 m e) (ulps binary64 n d) (omega (arith, z)) in
          let f : pattern (ulps binary64 m e) ≢ pattern (ulps binary64 n d) = λ t. z (le_of_eq (sym (pattern_same s m e n d p q t))) in
          lt-ltb (pattern (ulps binary64 m e)) (pattern (ulps binary64 n d)) (omega (arith, c, f))
          ∙ sym (lt-ltb (m * up e * down d) (n * up d * down e) (lt_of_not-le (λ h. z (le_ulps binary64 n d m e K H h))))

infinity_bits : of_bits binary64 0x7ff0_0000_0000_0000 ≡ inf false
unfolding of_bits
infinity_bits = refl

no_infinity : (s : Bool) (m : ℕ) (e : ℤ) → fin s m e ≡ inf false → ⊥
no_infinity s m e h = let z : ◌≡◌ {A = ℕ} 0 1 = cc in omega arith

-- a finite value's pattern is below an infinity's: one above it is a NaN's
pub fin_below : (m : ℕ) (e : ℤ) → T (fits binary64 (fin false m e)) → pattern (ulps binary64 m e) < 0x7ff0_0000_0000_0000
unfolding is_nan
fin_below m e h =
    let n = to_bits binary64 (fin false m e) in
    let a : n ≡ 0 + pattern (ulps binary64 m e) = to_bits_fin false m e in
    let b : of_bits binary64 n ≡ fin false m e = of_bits-to_bits binary64 (fin false m e) h in
    let c : n % half_range ≤ 0x7ff0_0000_0000_0000 = ltb-false 0x7ff0_0000_0000_0000 (n % half_range) (sym (nan_bits_above binary64 n) ∙ nan_bits_is binary64 n ∙ ap is_nan b) in
    let d : n ≢ 0x7ff0_0000_0000_0000 = λ t. no_infinity false m e (sym b ∙ ap (of_bits binary64) t ∙ infinity_bits) in
    omega (arith, a, c, d, pattern_small false m e h)
