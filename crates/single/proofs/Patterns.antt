-- The patterns of a value as a single and as a double. Both formats count a value in units: N of a single's, 2 ^ -149, are N * 2 ^ 925 of a double's, 2 ^ -1074.
-- From N and its number S of digits either pattern is computed, and so one from the other. Assumes nothing.
use Prim.Native.Nat.{ℕ, zero, suc, ◌+◌, ◌-◌, ◌*◌, ◌/◌, ◌%◌, ◌^◌, ◌≤◌, ◌<◌}
use native.Mathlib.Nat.{mul_assoc, mul_comm, mul_left_comm, mul_right_comm, mul-one, mul-zero, zero-mul, lt_of_le_of_lt, zero-sub, zero-div, mul-div_cancel, mul-div-mul_right, mul-pos, mul-le-mul_right, mul-lt-mul_of_pos_right, lt_of_mul-lt-mul_right, div-lt_iff_lt-mul, le-div_iff_mul-le}
use native.Mathlib.Omega.{arith}
use mathlib.Core.Path.{◌≡◌, refl, sym, ap, ◌∙◌, subst}
use mathlib.Core.Bool.{Bool, true, false, cond, ◌&&◌}
use lib.Dec.{T, eqb, ltb, leb, ltb→lt, leb→le}
use lib.IntN.{ℤ, pos, negsuc}
use lib.Pow.{pow-add, pow_pos, shr-shr, shl-shr, shl_lt}
use lib.Ieee.{Float, nan, inf, fin, Format, binary32, binary64, prec, low, hid, top, up, down, size, fits, to_bits}
use lib.Ieee.Digits.{size-lt, size_reaches}
use lib.Ieee.Fits.{and_l, and_r, up_pos, down_pos}
use Rattle.nat_laws.proofs.Power.{size_at, pow_back}
use Rattle.single.specs.Single.{is_single}

-- ---- a value in units

-- a times p over d, and a times p times t over d, where d goes into p
whole_units : (a d r p t : ℕ) → 0 < d → p ≡ r * d → (a * p / d ≡ a * r) × (a * (p * t) / d ≡ a * r * t)
whole_units a d r p t D e = (
  ap (λ (z : ℕ). a * z / d) e ∙ ap (λ (z : ℕ). z / d) (sym (mul_assoc a r d)) ∙ mul-div_cancel (a * r) D,
  ap (λ (z : ℕ). a * (z * t) / d) e
      ∙ ap (λ (z : ℕ). z / d) (ap (λ (z : ℕ). a * z) (mul_right_comm r d t) ∙ sym (mul_assoc a (r * t) d) ∙ ap (λ (z : ℕ). z * d) (sym (mul_assoc a r t)))
      ∙ mul-div_cancel (a * r * t) D,
)

few_units : (a d r p q : ℕ) → 0 < d → p ≡ r * d → a < q * d → 0 < p → a * r < q * p
few_units a d r p q D e l P =
    let m : a * p < q * d * p = mul-lt-mul_of_pos_right l P in
    lt_of_mul-lt-mul_right d
    (subst (λ (z : ℕ). z < q * p * d) (ap (λ (z : ℕ). a * z) e ∙ sym (mul_assoc a r d)) (subst (λ (z : ℕ). a * p < z) (mul_right_comm q d p) m))

divides : (e : ℤ) → down e ≤ 2 ^ 149 → (r : ℕ) × ((2 ^ 149 ≡ r * down e) × (0 < r))
divides (pos k) h = (2 ^ 149, (refl, pow_pos 149))
divides (negsuc k) h =
    let l : suc k < 150 = pow_back (suc k) 150 (lt_of_le_of_lt h (ltb→lt (2 ^ 149) (2 ^ 150) tt)) in
    let e : 149 ≡ 149 - suc k + suc k = omega arith in
    (2 ^ (149 - suc k), (ap (λ (z : ℕ). 2 ^ z) e ∙ pow-add 2 (149 - suc k) (suc k), pow_pos (149 - suc k)))

-- ---- the patterns by N units of a single's, with S digits

pattern_of : (f : Format) (s : Bool) (m : ℕ) (e : ℤ) (n : ℕ) → m * up e * 2 ^ low f / down e ≡ n
    → to_bits f (fin s m e) ≡ cond s (top f) 0 + (size n - prec f) * hid f + n / 2 ^ (size n - prec f)
unfolding to_bits
pattern_of f s m e n h = ap (λ (z : ℕ). cond s (top f) 0 + (size z - prec f) * hid f + z / 2 ^ (size z - prec f)) h

module _ (N : ℕ) (some : 0 < N) where
  pub digits_some : 0 < size N
  digits_some = go (size N) (size-lt N)
    where
      go : (k : ℕ) → N < 2 ^ k → 0 < k
      go zero l = omega (arith, l, some)
      go (suc k) l = omega arith

  reached : 2 ^ (size N - 1) ≤ N
  reached = size_reaches N (size N - 1) (omega (arith, digits_some))

  -- one power of two less, and the last one apart
  halves : 2 ^ size N ≡ 2 ^ (size N - 1) * 2
  halves = let e : size N ≡ size N - 1 + 1 = omega (arith, digits_some) in ap (λ (z : ℕ). 2 ^ z) e ∙ pow-add 2 (size N - 1) 1

  size_double : (t : ℕ) → size (N * 2 ^ t) ≡ size N + t
  size_double t =
      let lo : 2 ^ (size N - 1 + t) ≤ N * 2 ^ t = subst (λ (z : ℕ). z ≤ N * 2 ^ t) (sym (pow-add 2 (size N - 1) t)) (mul-le-mul_right (2 ^ t) reached) in
      let e : size N + t ≡ suc (size N - 1 + t) = omega (arith, digits_some) in
      let hi : N * 2 ^ t < 2 ^ suc (size N - 1 + t) = subst (λ (z : ℕ). N * 2 ^ t < 2 ^ z) e (shl_lt (size N) t (size-lt N)) in
      size_at (N * 2 ^ t) (size N - 1 + t) lo hi ∙ sym e

  abbrev pub lead : ℕ
  lead = N * 2 ^ 53 / 2 ^ size N

  pub lead_low : 2 ^ 52 ≤ lead
  lead_low =
      let e : 2 ^ 52 * 2 ^ size N ≡ 2 ^ (size N - 1) * 2 ^ 53 = ap (λ (z : ℕ). 2 ^ 52 * z) halves ∙ mul_left_comm (2 ^ 52) (2 ^ (size N - 1)) 2 in
      (le-div_iff_mul-le (pow_pos (size N))).1 (subst (λ (z : ℕ). z ≤ N * 2 ^ 53) (sym e) (mul-le-mul_right (2 ^ 53) reached))

  pub lead_high : lead < 2 ^ 53
  lead_high =
      (div-lt_iff_lt-mul (pow_pos (size N))).1 (subst (λ (z : ℕ). N * 2 ^ 53 < z) (mul_comm (2 ^ size N) (2 ^ 53)) (mul-lt-mul_of_pos_right (size-lt N) (pow_pos 53)))

  kept : N * 2 ^ 925 / 2 ^ (size N + 872) ≡ lead
  kept =
      ap (λ (z : ℕ). N * z / 2 ^ (size N + 872)) (pow-add 2 53 872)
      ∙ ap (λ (z : ℕ). N * (2 ^ 53 * 2 ^ 872) / z) (pow-add 2 (size N) 872)
      ∙ ap (λ (z : ℕ). z / (2 ^ size N * 2 ^ 872)) (sym (mul_assoc N (2 ^ 53) (2 ^ 872)))
      ∙ mul-div-mul_right (N * 2 ^ 53) (2 ^ size N) (pow_pos 872)

  -- the digits of a single that has no leading one, and of one that has
  pub shifted : (k : ℕ) → size N + k ≡ 53 → lead / 2 ^ k ≡ N
  shifted k e = shr-shr (N * 2 ^ 53) (size N) k ∙ ap (λ (z : ℕ). N * 2 ^ 53 / 2 ^ z) e ∙ shl-shr N 53

  pub leading : (j : ℕ) → size N ≡ 24 + j → lead / 2 ^ 29 ≡ N / 2 ^ j
  leading j e =
      let p : size N + 29 ≡ 53 + j = omega arith in
      shr-shr (N * 2 ^ 53) (size N) 29 ∙ ap (λ (z : ℕ). N * 2 ^ 53 / 2 ^ z) p ∙ sym (shr-shr (N * 2 ^ 53) 53 j) ∙ ap (λ (z : ℕ). z / 2 ^ j) (shl-shr N 53)

-- the two patterns: of a zero, and of N units
pub data Shape (x : Float) : Type 0 where
  null : (σ : ℕ) → σ ≤ 1 → to_bits binary64 x ≡ 2 ^ 63 * σ → to_bits binary32 x ≡ 2 ^ 31 * σ → Shape x
  some : (σ N : ℕ) → σ ≤ 1 → 0 < N → N < 2 ^ 277
      → to_bits binary64 x ≡ 2 ^ 63 * σ + (size N + 872) * 2 ^ 52 + N * 2 ^ 53 / 2 ^ size N
      → to_bits binary32 x ≡ 2 ^ 31 * σ + (size N - 24) * 2 ^ 23 + N / 2 ^ (size N - 24) → Shape x

sign_of : Bool → ℕ
sign_of b = cond b 1 0

sign_le : (b : Bool) → sign_of b ≤ 1
unfolding sign_of
sign_le true = omega arith
sign_le false = omega arith

sign_is : (b : Bool) (w : ℕ) → cond b w 0 ≡ w * sign_of b
unfolding sign_of
sign_is true w = sym (mul-one w)
sign_is false w = sym (mul-zero w)

no_units : (e : ℤ) (p : ℕ) → 0 * up e * p / down e ≡ 0
no_units e p = ap (λ (z : ℕ). z * p / down e) (zero-mul (up e)) ∙ ap (λ (z : ℕ). z / down e) (zero-mul p) ∙ zero-div (down e)

size_none : size 0 ≡ 0
unfolding size
size_none = refl

zero_pattern : (f : Format) (s : Bool) (e : ℤ) → to_bits f (fin s 0 e) ≡ top f * sign_of s
zero_pattern f s e =
    pattern_of f s 0 e 0 (no_units e (2 ^ low f))
    ∙ ap (λ (k : ℕ). cond s (top f) 0 + (k - prec f) * hid f + 0 / 2 ^ (k - prec f)) size_none
    ∙ ap (λ (k : ℕ). cond s (top f) 0 + k * hid f + 0 / 2 ^ k) (zero-sub (prec f))
    ∙ plain (cond s (top f) 0) (hid f)
    ∙ sign_is s (top f)
  where
    plain : (a h : ℕ) → a + 0 * h + 0 / 2 ^ 0 ≡ a
    plain a h = omega (arith, zero-mul h)

units_shape : (s : Bool) (m : ℕ) (e : ℤ) → down e ≤ 2 ^ 149 → suc m * up e < 2 ^ 128 * down e → Shape (fin s (suc m) e)
units_shape s m e d l =
    let r = divides e d in
    let a = suc m * up e in
    let N = a * r.0 in
    let w = whole_units a (down e) r.0 (2 ^ 149) (2 ^ 925) (down_pos e) r.1.0 in
    let A : 0 < a = mul-pos (omega arith) (up_pos e) in
    let P : 0 < N = mul-pos A r.1.1 in
    let both : a * 2 ^ 1074 / down e ≡ N * 2 ^ 925 = ap (λ (z : ℕ). a * z / down e) (pow-add 2 149 925) ∙ w.1 in
    let S : size (N * 2 ^ 925) - 53 ≡ size N + 872 = ap (λ (z : ℕ). z - 53) (size_double N P 925) ∙ less (size N) in
    some (sign_of s) N (sign_le s) P (few_units a (down e) r.0 (2 ^ 149) (2 ^ 128) (down_pos e) r.1.0 l (pow_pos 149))
    (pattern_of binary64 s (suc m) e (N * 2 ^ 925) both
    ∙ ap (λ (k : ℕ). cond s (2 ^ 63) 0 + k * 2 ^ 52 + N * 2 ^ 925 / 2 ^ k) S
    ∙ ap (λ (z : ℕ). cond s (2 ^ 63) 0 + (size N + 872) * 2 ^ 52 + z) (kept N P)
    ∙ ap (λ (z : ℕ). z + (size N + 872) * 2 ^ 52 + lead N P) (sign_is s (2 ^ 63)))
    (pattern_of binary32 s (suc m) e N w.0 ∙ ap (λ (z : ℕ). z + (size N - 24) * 2 ^ 23 + N / 2 ^ (size N - 24)) (sign_is s (2 ^ 31)))
  where
    less : (k : ℕ) → k + 925 - 53 ≡ k + 872
    less k = omega arith

pub shape : (x : Float) → T (is_single x) → Shape x
unfolding is_single fits
shape nan h = absurd h
shape (inf s) h = absurd h
shape (fin s zero e) h = null (sign_of s) (sign_le s) (zero_pattern binary64 s e) (zero_pattern binary32 s e)
shape (fin s (suc m) e) h =
    let A = eqb (suc m % 2) 1 in
    let B = ltb (suc m) (2 ^ 24) in
    let C = leb (down e) (2 ^ 149) in
    let D = ltb (suc m * up e) (2 ^ 128 * down e) in
    units_shape s m e (leb→le (down e) (2 ^ 149) (and_r (A && B) C (and_l (A && B && C) D h))) (ltb→lt (suc m * up e) (2 ^ 128 * down e) (and_r (A && B && C) D h))
