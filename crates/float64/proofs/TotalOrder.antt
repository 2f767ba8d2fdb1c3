-- The order of total keys is IEEE's order, with minus zero before zero and a NaN last; and no two values share a key. Assumes nothing.
use Prim.Native.Nat.{ℕ, ◌+◌, ◌*◌, ◌-◌, ◌<◌, ◌≤◌}
use mathlib.Core.Bool.{true, false, cond, ◌&&◌, ◌||◌, and-false, or-false}
use mathlib.Core.Path.{◌≡◌, refl, sym, ap, ◌∙◌}
use native.Mathlib.Omega.{arith}
use native.Mathlib.Decide.{dec_le}
use lib.Dec.{T, ltb, eqb}
use lib.IntN.{ℤ}
use lib.Ieee.{Float, nan, inf, fin, binary64, up, down, to_bits, of_bits, fits, is_nan, lt, eq}
use lib.Ieee.Bits.{of_bits-to_bits, to_bits-lt}
use borrow.Author.Tests.{lt-ltb, le-ltb}
use Rattle.float64.specs.Scalar.{negative}
use Rattle.float64.specs.TotalOrder.{half_range, turned, total_key, total_less}
use Rattle.root_spec.proofs.Units.{ulps, fits_either}
use Rattle.float64.proofs.Bits.{pattern, to_bits_fin, pattern_small, fin_below, cross}

pub turned_low : (b : ℕ) → b < half_range → b + half_range ≡ turned b
unfolding turned
turned_low b h = rw (lt-ltb b half_range h) refl

pub turned_high : (b : ℕ) → half_range ≤ b → 0xffff_ffff_ffff_ffff - b ≡ turned b
unfolding turned
turned_high b h = rw (le-ltb b half_range h) refl

-- ---- keys of values
key_plus : (m : ℕ) (e : ℤ) → T (fits binary64 (fin false m e)) → total_key (fin false m e) ≡ half_range + pattern (ulps binary64 m e)
unfolding total_key
key_plus m e h =
    let a : to_bits binary64 (fin false m e) ≡ 0 + pattern (ulps binary64 m e) = to_bits_fin false m e in
    let b : to_bits binary64 (fin false m e) < half_range = omega (arith, a, pattern_small false m e h) in
    omega (arith, a, turned_low (to_bits binary64 (fin false m e)) b)

key_minus : (m : ℕ) (e : ℤ) → T (fits binary64 (fin true m e)) → total_key (fin true m e) + pattern (ulps binary64 m e) + 1 ≡ half_range
unfolding total_key
key_minus m e h =
    let a : to_bits binary64 (fin true m e) ≡ half_range + pattern (ulps binary64 m e) = to_bits_fin true m e in
    let b : half_range ≤ to_bits binary64 (fin true m e) = omega (arith, a) in
    omega (arith, a, pattern_small true m e h, turned_high (to_bits binary64 (fin true m e)) b)

key_inf : total_key (inf false) ≡ 0xfff0_0000_0000_0000
unfolding total_key turned to_bits
key_inf = refl

key_low : total_key (inf true) ≡ 0x000f_ffff_ffff_ffff
unfolding total_key turned to_bits
key_low = refl

pub key_none : total_key nan ≡ 0xfff8_0000_0000_0000
unfolding total_key turned to_bits
key_none = refl

ltb_same : (a b c d : ℕ) → (a < b → c < d) → (b ≤ a → d ≤ c) → ltb a b ≡ ltb c d
ltb_same a b c d f g = go (dec_le b a) where
  go : Dec (b ≤ a) → ltb a b ≡ ltb c d
  go (yes x) = le-ltb a b x ∙ sym (le-ltb c d (g x))
  go (no x) = lt-ltb a b (omega (arith, x)) ∙ sym (lt-ltb c d (f (omega (arith, x))))

apart_or_zero : (a b : ℕ) → true ≡ (ltb 0 (a + b) || ((eqb a b && eqb a 0) && true))
apart_or_zero a b = go (dec_le (a + b) 0) where
  go : Dec (a + b ≤ 0) → true ≡ (ltb 0 (a + b) || ((eqb a b && eqb a 0) && true))
  go (yes x) = let p : a ≡ 0 = omega (arith, x) in let q : b ≡ 0 = omega (arith, x) in rw (p, q) refl
  go (no x) = rw (lt-ltb 0 (a + b) (omega (arith, x))) refl

-- By the kinds and the signs of the two. Keys of values of one sign compare as their patterns, and these as their magnitudes (`cross`); the keys of the others lie in separate ranges.
pub total_key_less : (x y : Float) → T (fits binary64 x) → T (fits binary64 y) → ltb (total_key x) (total_key y) ≡ total_less x y
unfolding total_less lt eq is_nan negative
total_key_less nan nan p q = rw key_none refl
total_key_less nan (inf true) p q = rw (key_none, key_low) refl
total_key_less nan (inf false) p q = rw (key_none, key_inf) refl
total_key_less nan (fin true n d) p q = le-ltb (total_key nan) (total_key (fin true n d)) (omega (arith, key_none, key_minus n d q))
total_key_less nan (fin false n d) p q = le-ltb (total_key nan) (total_key (fin false n d)) (omega (arith, key_none, key_plus n d q, fin_below n d q))
total_key_less (inf true) nan p q = rw (key_none, key_low) refl
total_key_less (inf false) nan p q = rw (key_none, key_inf) refl
total_key_less (inf true) (inf true) p q = rw key_low refl
total_key_less (inf true) (inf false) p q = rw (key_low, key_inf) refl
total_key_less (inf false) (inf true) p q = rw (key_low, key_inf) refl
total_key_less (inf false) (inf false) p q = rw key_inf refl
total_key_less (inf true) (fin true n d) p q = lt-ltb (total_key (inf true)) (total_key (fin true n d)) (omega (arith, key_low, key_minus n d q, fin_below n d (fits_either binary64 true false n d q)))
total_key_less (inf true) (fin false n d) p q = lt-ltb (total_key (inf true)) (total_key (fin false n d)) (omega (arith, key_low, key_plus n d q))
total_key_less (inf false) (fin true n d) p q = le-ltb (total_key (inf false)) (total_key (fin true n d)) (omega (arith, key_inf, key_minus n d q))
total_key_less (inf false) (fin false n d) p q = le-ltb (total_key (inf false)) (total_key (fin false n d)) (omega (arith, key_inf, key_plus n d q, fin_below n d q))
total_key_less (fin true m e) nan p q = lt-ltb (total_key (fin true m e)) (total_key nan) (omega (arith, key_none, key_minus m e p))
total_key_less (fin false m e) nan p q = lt-ltb (total_key (fin false m e)) (total_key nan) (omega (arith, key_none, key_plus m e p, fin_below m e p))
total_key_less (fin true m e) (inf true) p q = le-ltb (total_key (fin true m e)) (total_key (inf true)) (omega (arith, key_low, key_minus m e p, fin_below m e (fits_either binary64 true false m e p)))
total_key_less (fin true m e) (inf false) p q = lt-ltb (total_key (fin true m e)) (total_key (inf false)) (omega (arith, key_inf, key_minus m e p))
total_key_less (fin false m e) (inf true) p q = le-ltb (total_key (fin false m e)) (total_key (inf true)) (omega (arith, key_low, key_plus m e p))
total_key_less (fin false m e) (inf false) p q = lt-ltb (total_key (fin false m e)) (total_key (inf false)) (omega (arith, key_inf, key_plus m e p, fin_below m e p))
total_key_less (fin false m e) (fin false n d) p q =
    rw (and-false, or-false)
    (ltb_same (total_key (fin false m e)) (total_key (fin false n d)) (pattern (ulps binary64 m e)) (pattern (ulps binary64 n d))
    (λ h. omega (arith, h, key_plus m e p, key_plus n d q)) (λ h. omega (arith, h, key_plus m e p, key_plus n d q))
    ∙ cross false m e n d p q)
total_key_less (fin true m e) (fin true n d) p q =
    rw (and-false, or-false)
    (ltb_same (total_key (fin true m e)) (total_key (fin true n d)) (pattern (ulps binary64 n d)) (pattern (ulps binary64 m e))
    (λ h. omega (arith, h, key_minus m e p, key_minus n d q)) (λ h. omega (arith, h, key_minus m e p, key_minus n d q))
    ∙ cross true n d m e q p)
total_key_less (fin true m e) (fin false n d) p q =
    lt-ltb (total_key (fin true m e)) (total_key (fin false n d)) (omega (arith, key_minus m e p, key_plus n d q)) ∙ apart_or_zero (m * up e * down d) (n * up d * down e)
total_key_less (fin false m e) (fin true n d) p q =
    rw and-false (le-ltb (total_key (fin false m e)) (total_key (fin true n d)) (omega (arith, key_plus m e p, key_minus n d q)))

-- ---- a key is a number of 64 bits, and tells the value
turned_back : (b : ℕ) → b < 0x1_0000_0000_0000_0000 → cond (ltb (turned b) half_range) (0xffff_ffff_ffff_ffff - turned b) (turned b - half_range) ≡ b
turned_back b h = elim (dec_le half_range b) [
  | yes x ↦ let e = turned_high b x in rw (lt-ltb (turned b) half_range (omega arith)) (omega arith)
  | no x ↦ let e = turned_low b (omega arith) in rw (le-ltb (turned b) half_range (omega arith)) (omega arith)
]

pub total_key_injective : (x y : Float) → T (fits binary64 x) → T (fits binary64 y) → total_key x ≡ total_key y → x ≡ y
unfolding total_key
total_key_injective x y p q h =
    let b : to_bits binary64 x ≡ to_bits binary64 y =
    sym (turned_back (to_bits binary64 x) (to_bits-lt binary64 x p)) ∙ ap (λ (k : ℕ). cond (ltb k half_range) (0xffff_ffff_ffff_ffff - k) (k - half_range)) h ∙ turned_back (to_bits binary64 y) (to_bits-lt binary64 y q) in
    sym (of_bits-to_bits binary64 x p) ∙ ap (of_bits binary64) b ∙ of_bits-to_bits binary64 y q
