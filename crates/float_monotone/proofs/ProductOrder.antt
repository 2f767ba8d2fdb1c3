-- A product of finite floats rises with one factor where the other is not below zero, and falls where it is not above: factors of any sign. Assumes nothing.
--     mul_rises (0 ≤ k, x ≤ y give k * x ≤ k * y), mul_falls (k ≤ 0)
use Prim.Native.Nat.{ℕ, ◌*◌}
use mathlib.Core.Bool.{Bool, true, false, not}
use mathlib.Core.Path.{◌≡◌, refl, sym, ap, ◌∙◌, subst}
use native.Mathlib.Nat.{le_refl, zero-mul, mul-pos}
use lib.Dec.{T}
use lib.IntN.{ℤ}
use lib.Ieee.{Float, nan, inf, fin, Format, up, down, unlike, round, mul, neg, le, of_bits}
use lib.Ieee.Fits.{down_pos}
use lib.Ieee.Scale.{finite}
use Rattle.nat_laws.proofs.Ring.{ring}
use Rattle.float64.specs.Scalar.{zero64}
use Rattle.float_laws.proofs.Signed.{SLe, signed, signed_up}
use Rattle.float_laws.proofs.Order.{neg_le, neg_neg, neg_finite}
use Rattle.float_laws.proofs.Order as order
use Rattle.float_laws.proofs.Round.{round_not, round_signed}
use Rattle.float_laws.proofs.Roots.{no_sign}

-- X / p and Y / q, each times K / r
scaled : (s t : Bool) (K X Y p q r : ℕ) → SLe s (X * q) t (Y * p) → SLe s (K * X * (r * q)) t (K * Y * (r * p))
scaled s t K X Y p q r h = subst (λ (z : ℕ). SLe s z t (K * Y * (r * p))) (move K X q r) (subst (λ (z : ℕ). SLe s (X * q * (K * r)) t z) (move K Y p r) (signed_up s t (X * q) (Y * p) (K * r) h))
  where
    move : (a b c d : ℕ) → b * c * (a * d) ≡ a * b * (d * c)
    move a b c d = simp ring refl

zeros : (s t : Bool) → SLe s 0 t 0
zeros false false = le_refl 0
zeros false true = (refl, refl)
zeros true false = tt
zeros true true = le_refl 0

compared : (s : Bool) (m : ℕ) (e : ℤ) (t : Bool) (n : ℕ) (d : ℤ) → T (le (fin s m e) (fin t n d)) → SLe s (m * up e * down d) t (n * up d * down e)
unfolding le
compared s m e t n d h = signed s (m * up e * down d) t (n * up d * down e) h

pub mul_rises : (f : Format) (k x y : Float) → T (finite k) → T (finite x) → T (finite y) → T (le zero64 k) → T (le x y) → T (le (mul f k x) (mul f k y))
unfolding mul
mul_rises f nan x y F G H i h = absurd F
mul_rises f (inf u) x y F G H i h = absurd F
mul_rises f (fin u l g) nan y F G H i h = absurd G
mul_rises f (fin u l g) (inf s) y F G H i h = absurd G
mul_rises f (fin u l g) (fin s m e) nan F G H i h = absurd H
mul_rises f (fin u l g) (fin s m e) (inf t) F G H i h = absurd H
mul_rises f (fin false l g) (fin s m e) (fin t n d) F G H i h =
    subst (λ (b : Bool). T (le (round f b (l * up g * (m * up e)) (down g * down e)) (round f (unlike false t) (l * up g * (n * up d)) (down g * down d)))) (like s)
    (subst (λ (b : Bool). T (le (round f s (l * up g * (m * up e)) (down g * down e)) (round f b (l * up g * (n * up d)) (down g * down d)))) (like t)
    (round_signed f s t (l * up g * (m * up e)) (l * up g * (n * up d)) (down g * down e) (down g * down d) (mul-pos (down_pos g) (down_pos e)) (mul-pos (down_pos g) (down_pos d))
    (scaled s t (l * up g) (m * up e) (n * up d) (down e) (down d) (down g) (compared s m e t n d h))))
  where
    like : (b : Bool) → b ≡ unlike false b
    like true = refl
    like false = refl
mul_rises f (fin true l g) (fin s m e) (fin t n d) F G H i h =
    let z = no_sign l g i in
    round_signed f (unlike true s) (unlike true t) (l * up g * (m * up e)) (l * up g * (n * up d)) (down g * down e) (down g * down d) (mul-pos (down_pos g) (down_pos e)) (mul-pos (down_pos g) (down_pos d))
    (subst (λ (a : ℕ). SLe (unlike true s) a (unlike true t) (l * up g * (n * up d) * (down g * down e))) (sym (none z (m * up e) (down g * down d)))
    (subst (λ (a : ℕ). SLe (unlike true s) 0 (unlike true t) a) (sym (none z (n * up d) (down g * down e))) (zeros (unlike true s) (unlike true t))))
  where
    none : l ≡ 0 → (a b : ℕ) → l * up g * a * b ≡ 0
    none z a b = rw (z, zero-mul, zero-mul, zero-mul)

-- the sign goes through
mul_neg : (f : Format) (k x : Float) → T (finite k) → T (finite x) → mul f (neg k) x ≡ neg (mul f k x)
unfolding mul neg
mul_neg f nan x F G = absurd F
mul_neg f (inf u) x F G = absurd F
mul_neg f (fin u l g) nan F G = absurd G
mul_neg f (fin u l g) (inf s) F G = absurd G
mul_neg f (fin u l g) (fin s m e) F G = ap (λ (b : Bool). round f b (l * up g * (m * up e)) (down g * down e)) (turned u s) ∙ round_not f (unlike u s) (l * up g * (m * up e)) (down g * down e)
  where
    turned : (a b : Bool) → unlike (not a) b ≡ not (unlike a b)
    turned true true = refl
    turned true false = refl
    turned false true = refl
    turned false false = refl

zero_neg_le : T (le zero64 (neg zero64))
unfolding le neg of_bits
zero_neg_le = tt

pub mul_falls : (f : Format) (k x y : Float) → T (finite k) → T (finite x) → T (finite y) → T (le k zero64) → T (le x y) → T (le (mul f k y) (mul f k x))
mul_falls f k x y F G H i h =
    let l = mul_rises f (neg k) x y (neg_finite k F) G H (order.le_trans zero64 (neg zero64) (neg k) zero_neg_le (neg_le k zero64 i)) h in
    let m = neg_le (mul f (neg k) x) (mul f (neg k) y) l in
    let back : (z : Float) → T (finite z) → neg (mul f (neg k) z) ≡ mul f k z = λ z Z. ap neg (mul_neg f k z F Z) ∙ neg_neg (mul f k z) in
    subst (λ (v : Float). T (le v (mul f k x))) (back y H) (subst (λ (v : Float). T (le (neg (mul f (neg k) y)) v)) (back x G) m)
