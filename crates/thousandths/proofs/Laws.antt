-- The thousandths of a double, from its pattern. In units of the smallest value the double is n of d = 2 ^ 1074, and the powers of two
-- that n and d share cancel; what is left fits the code's words. Assumes nothing.
use mathlib.Core.Path.{◌≡◌, refl, sym, ap, subst, ◌∙◌}
use mathlib.Core.Bool.{Bool, true, false, cond}
use Prim.Native.Nat.{ℕ, zero, suc, ◌+◌, ◌-◌, ◌*◌, ◌/◌, ◌%◌, ◌^◌, ◌≤◌, ◌<◌}
use native.Mathlib.Nat.{mul-div-mul_left, mul-div-mul_right, div-div-eq-div-mul, le-div_iff_mul-le, div-lt_iff_lt-mul, suc-mul, mul_comm, add-div_right, div-eq_of_lt, mul-lt-mul_of_pos_right, lt_of_lt_of_le, lt_of_not-le, mul-pos, mul_assoc, add_comm, pow-succ'}
use native.Mathlib.Decide.{dec_le}
use native.Mathlib.Omega.{arith}
use lib.Pow.{pow-add, pow_pos, pow_mono}
use lib.Ieee.{Float, nan, inf, fin, binary64, up, down, of_bits}
use lib.Ieee.Exact.{HasValue}
use lib.Ieee.Fits.{down_pos}
use Rattle.nat_laws.proofs.Ring.{ring}
use Rattle.root_spec.proofs.Patterns.{read_low, read_mid}
use Rattle.thousandths.specs.Thousandths.{rounded, thousandths_of}

-- ---- products
top : (a c n d : ℕ) → a * d ≡ n * c → (2000 * a + c) * d ≡ (2000 * n + d) * c
top a c n d q = let k = ap (λ (x : ℕ). 2000 * x) q in simp ring (omega (arith, simp ring at k))

bottom : (c d : ℕ) → 2 * c * d ≡ 2 * d * c
bottom c d = simp ring refl

other : (c d : ℕ) → d * (2 * c) ≡ c * (2 * d)
other c d = simp ring refl

over : (m p q : ℕ) → 2000 * (m * p) + p * (2 * q) ≡ 2 * p * (1000 * m + q)
over m p q = simp ring (omega arith)

under : (p q : ℕ) → 2 * (p * (2 * q)) ≡ 2 * p * (q * 2)
under p q = simp ring refl

lifted : (w d : ℕ) → 2000 * (w * d) + d ≡ (2000 * w + 1) * d
lifted w d = simp ring (omega arith)

-- a number less one, over a multiple of what it is a multiple of
less_one : (y p : ℕ) → 0 < p → (suc y * p - 1) / p ≡ y
less_one y p h =
    let e : suc y * p ≡ y * p + p = suc-mul y p in
    let low : y ≤ (suc y * p - 1) / p = (le-div_iff_mul-le {k = p} {x = y} {y = suc y * p - 1} h).1 (omega (arith, e)) in
    let high : (suc y * p - 1) / p < suc y = (div-lt_iff_lt-mul {k = p} {x = suc y * p - 1} {y = suc y} h).1 (omega (arith, e)) in omega (arith, low, high)

scale : (y z p : ℕ) → 0 < y → 0 < p → (y * p - 1) / (p * z) ≡ (y - 1) / z
scale zero z p l h = absurd (omega arith)
scale (suc y) z p l h = let e : suc y - 1 ≡ y = omega arith in sym (div-div-eq-div-mul (suc y * p - 1) p z) ∙ rw (less_one y p h, e)

-- a fraction's own terms do not matter
pub rounded_same : (minus : Bool) (a c n d : ℕ) → 0 < c → 0 < d → a * d ≡ n * c → rounded minus a c ≡ rounded minus n d
unfolding rounded
rounded_same false a c n d hc hd q =
    sym (mul-div-mul_right (2000 * a + c) (2 * c) hd)
    ∙ ap (λ (x : ℕ). x / (2 * c * d)) (top a c n d q)
    ∙ ap (λ (x : ℕ). (2000 * n + d) * c / x) (bottom c d)
    ∙ mul-div-mul_right (2000 * n + d) (2 * d) hc
rounded_same true a c n d hc hd q =
    sym (scale (2000 * a + c) (2 * c) d (omega arith) hd)
    ∙ ap (λ (x : ℕ). (x - 1) / (d * (2 * c))) (top a c n d q)
    ∙ ap (λ (x : ℕ). ((2000 * n + d) * c - 1) / x) (other c d)
    ∙ scale (2000 * n + d) (2 * d) c (omega arith) hc

pub of_value : (minus : Bool) (x : Float) (n d : ℕ) → 0 < d → HasValue x false n d → thousandths_of minus x ≡ rounded minus n d
unfolding thousandths_of
of_value minus nan n d p h = absurd h
of_value minus (inf s) n d p h = absurd h
of_value minus (fin s m e) n d p h = rounded_same minus (m * up e) (down e) n d (down_pos e) p h.1

-- m * p of p * (2 * q): the terms that the code has
pub halves : (minus : Bool) (m p q d : ℕ) → 0 < m → 0 < p → 0 < q → d ≡ p * (2 * q) → rounded minus (m * p) d ≡ ((1000 * m - cond minus 1 0) / q + 1) / 2
unfolding rounded
halves false m p q d hm hp hq e =
    let all : 1000 * m ≡ 1000 * m - 0 = omega arith in
    ap (λ (x : ℕ). (2000 * (m * p) + x) / (2 * x)) e
    ∙ ap (λ (x : ℕ). x / (2 * (p * (2 * q)))) (over m p q)
    ∙ ap (λ (x : ℕ). 2 * p * (1000 * m + q) / x) (under p q)
    ∙ mul-div-mul_left (1000 * m + q) (q * 2) (mul-pos (omega arith) hp)
    ∙ sym (div-div-eq-div-mul (1000 * m + q) q 2)
    ∙ ap (λ (x : ℕ). x / 2) (add-div_right (1000 * m) hq)
    ∙ ap (λ (x : ℕ). (x / q + 1) / 2) all
halves true m p q d hm hp hq e =
    let less : 1000 * m + q - 1 ≡ 1000 * m - 1 + q = omega arith in
    ap (λ (x : ℕ). (2000 * (m * p) + x - 1) / (2 * x)) e
    ∙ ap (λ (x : ℕ). (x - 1) / (2 * (p * (2 * q)))) (over m p q ∙ mul_comm (2 * p) (1000 * m + q))
    ∙ ap (λ (x : ℕ). ((1000 * m + q) * (2 * p) - 1) / x) (under p q)
    ∙ scale (1000 * m + q) (q * 2) (2 * p) (omega arith) (mul-pos (omega arith) hp)
    ∙ sym (div-div-eq-div-mul (1000 * m + q - 1) q 2)
    ∙ ap (λ (x : ℕ). x / 2) (ap (λ (x : ℕ). x / q) less ∙ add-div_right (1000 * m - 1) hq)

none : (minus : Bool) (n d : ℕ) → 2000 * n < d → rounded minus n d ≡ 0
unfolding rounded
none false n d h = div-eq_of_lt (omega arith)
none true n d h = div-eq_of_lt (omega arith)

-- a whole number
whole : (minus : Bool) (w d : ℕ) → 0 < d → rounded minus (w * d) d ≡ 1000 * w
unfolding rounded
whole false w d h = ap (λ (x : ℕ). x / (2 * d)) (lifted w d) ∙ mul-div-mul_right (2000 * w + 1) 2 h ∙ omega arith
whole true w d h = ap (λ (x : ℕ). (x - 1) / (2 * d)) (lifted w d) ∙ ap (λ (x : ℕ). ((2000 * w + 1) * d - 1) / x) (mul_comm 2 d) ∙ scale (2000 * w + 1) 2 d (omega arith) h ∙ omega arith

-- ---- by the pattern

-- a double from 2 ^ -1022 on and below 2 ^ 52
pub from_digits : (minus : Bool) (b : ℕ) → 2 ^ 52 ≤ b → b < 0x4330_0000_0000_0000 → thousandths_of minus (of_bits binary64 b) ≡ ((1000 * (b % 2 ^ 52 + 2 ^ 52) - cond minus 1 0) / 2 ^ (1074 - b / 2 ^ 52) + 1) / 2
from_digits minus b l h =
    let k = 1074 - b / 2 ^ 52 in
    let e : 1074 ≡ b / 2 ^ 52 - 1 + suc k = omega arith in
    of_value minus _ _ (2 ^ 1074) (pow_pos 1074) (read_mid b l (omega arith))
    ∙ halves minus (2 ^ 52 + b % 2 ^ 52) (2 ^ (b / 2 ^ 52 - 1)) (2 ^ k) (2 ^ 1074) (omega arith) (pow_pos (b / 2 ^ 52 - 1)) (pow_pos k)
    (ap (λ (x : ℕ). 2 ^ x) e ∙ pow-add 2 (b / 2 ^ 52 - 1) (suc k) ∙ ap (λ (x : ℕ). 2 ^ (b / 2 ^ 52 - 1) * x) (pow-succ' 2 k))
    ∙ ap (λ (x : ℕ). ((1000 * x - cond minus 1 0) / 2 ^ k + 1) / 2) (add_comm (2 ^ 52) (b % 2 ^ 52))

-- one from 2 ^ 52 on is a whole number
pub from_large : (minus : Bool) (b : ℕ) → 0x4330_0000_0000_0000 ≤ b → b < 0x7ff0_0000_0000_0000 → thousandths_of minus (of_bits binary64 b) ≡ 1000 * (b % 2 ^ 52 + 2 ^ 52) * 2 ^ (b / 2 ^ 52 - 1075)
from_large minus b l h =
    let k = b / 2 ^ 52 - 1075 in
    let m = 2 ^ 52 + b % 2 ^ 52 in
    let e : b / 2 ^ 52 - 1 ≡ k + 1074 = omega arith in
    let n : m * 2 ^ (b / 2 ^ 52 - 1) ≡ m * 2 ^ k * 2 ^ 1074 = ap (λ (x : ℕ). m * 2 ^ x) e ∙ ap (λ (x : ℕ). m * x) (pow-add 2 k 1074) ∙ sym (mul_assoc m (2 ^ k) (2 ^ 1074)) in
    of_value minus _ _ (2 ^ 1074) (pow_pos 1074) (read_mid b (omega arith) h)
    ∙ ap (λ (x : ℕ). rounded minus x (2 ^ 1074)) n ∙ whole minus (m * 2 ^ k) (2 ^ 1074) (pow_pos 1074)
    ∙ sym (mul_assoc 1000 m (2 ^ k)) ∙ ap (λ (x : ℕ). 1000 * x * 2 ^ k) (add_comm (2 ^ 52) (b % 2 ^ 52))

-- a double below 2 ^ -11 has no thousandth
pub below_half : (minus : Bool) (b : ℕ) → b < 0x3f40_0000_0000_0000 → thousandths_of minus (of_bits binary64 b) ≡ 0
below_half minus b h = go (dec_le (2 ^ 52) b)
  where
    small : (m p : ℕ) → m < 2 ^ 53 → p ≤ 1010 → 2000 * (m * 2 ^ p) < 2 ^ 1074
    small m p hm hp =
        let t : 2000 * m < 2 ^ 64 = omega arith in
        lt_of_lt_of_le
        (subst (λ (x : ℕ). 2000 * (m * 2 ^ p) < x) (sym (pow-add 2 64 p)) (subst (λ (x : ℕ). x < 2 ^ 64 * 2 ^ p) (mul_assoc 2000 m (2 ^ p)) (mul-lt-mul_of_pos_right t (pow_pos p))))
        (pow_mono {i = 64 + p} {j = 1074} (omega arith))

    go : Dec (2 ^ 52 ≤ b) → thousandths_of minus (of_bits binary64 b) ≡ 0
    go (yes l) = of_value minus _ _ (2 ^ 1074) (pow_pos 1074) (read_mid b l (omega arith)) ∙ none minus _ _ (small (2 ^ 52 + b % 2 ^ 52) (b / 2 ^ 52 - 1) (omega arith) (omega arith))
    go (no f) = of_value minus _ _ (2 ^ 1074) (pow_pos 1074) (read_low b (lt_of_not-le f)) ∙ none minus _ _ (small b 0 (omega (arith, lt_of_not-le f)) (omega arith))
