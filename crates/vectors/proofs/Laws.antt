-- Laws of stored numbers and of the comparison with a stored pattern. Assumes nothing.
use mathlib.Core.Path.{◌≡◌, refl, sym, ap, subst, ◌∙◌}
use mathlib.Core.Bool.{Bool, true, false, true≢false}
use mathlib.Core.List.{List}
use Prim.Native.Nat.{ℕ, ◌+◌, ◌*◌, ◌%◌, ◌^◌, ◌≤◌, ◌<◌}
use native.Mathlib.Nat.{add-zero, le-mul_of_pos_right, mul-le-mul_right, le_trans, mul_assoc, mul_comm}
use native.Mathlib.Numerals.{add-one}
use native.Mathlib.Omega.{arith}
use lib.Dec.{T}
use lib.ListN.{length, take, drop, get_or}
use lib.Pow.{pow-add, pow_pos}
use lib.Seq.{drop-cons}
use lib.Ieee.{Float, nan, inf, fin, binary64, fits, of_bits, to_bits, is_nan, ne}
use lib.Ieee.Compare.{differs_from_itself}
use lib.Ieee.Bits.{of_bits-to_bits, of_bits-fits, nan_bits_is, nan_bits_above}
use borrow.Author.Tests.{eqb-true, eqb-false, lt-ltb}
use Rattle.vectors.specs.Records.{little_endian, agrees, failing}

-- one byte more, below the others
pub byte_below : (s : List ℕ) (p q n m r : ℕ) → q ≡ p + 1 → m ≡ n + 1 → p < length s → r ≡ little_endian (take n (drop q s))
    → 256 * r + get_or s p 0 ≡ little_endian (take m (drop p s))
unfolding little_endian
byte_below s p q n m r eq em h er = rw (em, add-one, drop-cons s p 0, er, eq, add-one) (omega arith)

-- a number that j more bytes keep within w: it is below w, and with one byte more it is one that j - 1 more bytes keep within w
pub bounded : (r j w : ℕ) → (r + 1) * 2 ^ (8 * j) ≤ w → r < w
bounded r j w h = omega (arith, le_trans (le-mul_of_pos_right (r + 1) (pow_pos (8 * j))) h)

pub bounded_step : (r b i j w : ℕ) → b < 256 → j ≡ i + 1 → (r + 1) * 2 ^ (8 * j) ≤ w → (256 * r + b + 1) * 2 ^ (8 * i) ≤ w
bounded_step r b i j w hb e h =
    let t : (256 * (r + 1)) * 2 ^ (8 * i) ≡ (r + 1) * 2 ^ (8 * j) =
    ap (λ (x : ℕ). x * 2 ^ (8 * i)) (mul_comm 256 (r + 1)) ∙ mul_assoc (r + 1) 256 (2 ^ (8 * i)) ∙ ap (λ (x : ℕ). (r + 1) * x) (sym (pow-add 2 8 (8 * i)) ∙ ap (λ (x : ℕ). 2 ^ x) (omega arith)) in
    let le : 256 * r + b + 1 ≤ 256 * (r + 1) = omega arith in
    le_trans (subst (λ (x : ℕ). (256 * r + b + 1) * 2 ^ (8 * i) ≤ x) t (mul-le-mul_right (2 ^ (8 * i)) le)) h

-- ---- NaN

-- a float that differs from itself is the NaN, whose pattern is the quiet one with no sign
pub nan_pattern : (x : Float) → ne x x ≡ true → 0x7ff8_0000_0000_0000 ≡ to_bits binary64 x
unfolding to_bits
nan_pattern x h = ap (to_bits binary64) (sym (differs_from_itself x (subst T (sym h) tt)))

-- the patterns above the infinity's, the sign aside, are the NaN's
pub nan_is : (b : ℕ) → 0x7ff0_0000_0000_0000 < b % 0x8000_0000_0000_0000 → nan ≡ of_bits binary64 b
unfolding is_nan
nan_is b h = only (of_bits binary64 b) (sym (nan_bits_is binary64 b) ∙ nan_bits_above binary64 b ∙ lt-ltb _ _ h)
  where
    only : (x : Float) → is_nan x ≡ true → nan ≡ x
    only nan e = refl
    only (inf s) e = absurd (true≢false (sym e))
    only (fin s m k) e = absurd (true≢false (sym e))

-- `agrees` decides whether x is the float of the pattern b
module _ (x : Float) (b : ℕ) (h : T (fits binary64 x)) where
  pub agrees_is : agrees x b ≡ true → x ≡ of_bits binary64 b
  unfolding agrees
  agrees_is e = sym (of_bits-to_bits binary64 x h) ∙ ap (of_bits binary64) (eqb-true _ _ e) ∙ of_bits-to_bits binary64 (of_bits binary64 b) (of_bits-fits binary64 b)

  pub agrees_not : agrees x b ≡ false → x ≡ of_bits binary64 b → ⊥
  unfolding agrees
  agrees_not e q = eqb-false _ _ e (ap (to_bits binary64) q)

-- ---- one case more, that holds or fails
module _ (holds : ℕ → Bool) (k n : ℕ) (e : n ≡ failing holds k) where
  pub same_count : holds k ≡ true → n ≡ failing holds (k + 1)
  unfolding failing
  same_count h = rw (add-one k, h, add-zero) e

  pub one_more : holds k ≡ false → n + 1 ≡ failing holds (k + 1)
  unfolding failing
  one_more h = rw (add-one k, h) (ap (λ (x : ℕ). x + 1) e)
