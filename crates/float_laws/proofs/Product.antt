-- Products of finite floats that are not below zero, as computed. A product may overflow to infinity, and is never a NaN. Assumes nothing.
--     mul_mono (grows with each factor), mul_nonneg
use Prim.Native.Nat.{ℕ, ◌*◌, ◌≤◌}
use mathlib.Core.Bool.{Bool, true, false}
use mathlib.Core.Path.{◌≡◌, sym, ap, ◌∙◌}
use native.Mathlib.Nat as nat
use native.Mathlib.Nat.{mul-pos, zero-mul, mul-zero, mul-one, le_of_eq, mul-le-mul, mul-mul-mul_comm}
use native.Mathlib.Omega.{arith}
use lib.Dec.{T}
use lib.IntN.{ℤ}
use lib.Ieee.{Float, nan, inf, fin, Format, binary32, binary64, up, down, unlike, mul, le, of_bits}
use lib.Ieee.Fits.{down_pos}
use lib.Ieee.Scale.{finite}
use Rattle.float64.specs.Scalar as scalar
use Rattle.float_laws.proofs.Signed.{SLe, signed}
use Rattle.float_laws.proofs.Order as order
use Rattle.float_laws.proofs.Order.{finite_number, zero_finite}
use Rattle.float_laws.proofs.Round.{round_signed}

-- a magnitude with a minus sign is zero
unfoldable Plain : Bool → ℕ → Type 0
Plain s a = T s → a ≡ 0

plain_of : (s : Bool) (m : ℕ) (e : ℤ) → T (le scalar.zero64 (fin s m e)) → Plain s (m * up e)
unfolding le of_bits Plain
plain_of false m e h t = absurd t
plain_of true m e h t = let z = signed false (0 * 1 * down e) true (m * up e * 1) h in sym (mul-one (m * up e)) ∙ z.1

-- two such compare by their magnitudes
plain_le : (s t : Bool) (a b : ℕ) → Plain s a → Plain t b → a ≤ b → SLe s a t b
unfolding Plain
plain_le false false a b p q h = h
plain_le false true a b p q h = let z = q tt in (omega arith, z)
plain_le true false a b p q h = tt
plain_le true true a b p q h = let z = p tt in let w = q tt in omega arith

le_plain : (s t : Bool) (a b : ℕ) → Plain s a → Plain t b → SLe s a t b → a ≤ b
unfolding Plain
le_plain false false a b p q h = h
le_plain false true a b p q h = let z = h.0 in omega arith
le_plain true false a b p q h = let z = p tt in omega arith
le_plain true true a b p q h = let z = p tt in omega arith

plain_times : (s : Bool) (a c : ℕ) → Plain s a → Plain s (a * c)
unfolding Plain
plain_times s a c p t = ap (λ (n : ℕ). n * c) (p t) ∙ zero-mul c

-- a product's sign is a minus only where one factor has one
plain_product : (s t : Bool) (a b : ℕ) → Plain s a → Plain t b → Plain (unlike s t) (a * b)
unfolding Plain
plain_product false false a b p q h = absurd h
plain_product true true a b p q h = absurd h
plain_product false true a b p q h = ap (λ (n : ℕ). a * n) (q tt) ∙ mul-zero a
plain_product true false a b p q h = ap (λ (n : ℕ). n * b) (p tt) ∙ zero-mul b

compared : (s : Bool) (m : ℕ) (e : ℤ) (t : Bool) (n : ℕ) (d : ℤ) → T (le (fin s m e) (fin t n d)) → SLe s (m * up e * down d) t (n * up d * down e)
unfolding le
compared s m e t n d h = signed s (m * up e * down d) t (n * up d * down e) h

pub mul_mono : (f : Format) (x x' y y' : Float) → T (finite x) → T (finite x') → T (finite y) → T (finite y') → T (le scalar.zero64 x) → T (le scalar.zero64 y) → T (le x x') → T (le y y') → T (le (mul f x y) (mul f x' y'))
unfolding mul
mul_mono f nan x' y y' F F' G G' i j h k = absurd F
mul_mono f (inf s) x' y y' F F' G G' i j h k = absurd F
mul_mono f (fin s m e) nan y y' F F' G G' i j h k = absurd F'
mul_mono f (fin s m e) (inf s') y y' F F' G G' i j h k = absurd F'
mul_mono f (fin s m e) (fin s' m' e') nan y' F F' G G' i j h k = absurd G
mul_mono f (fin s m e) (fin s' m' e') (inf t) y' F F' G G' i j h k = absurd G
mul_mono f (fin s m e) (fin s' m' e') (fin t n d) nan F F' G G' i j h k = absurd G'
mul_mono f (fin s m e) (fin s' m' e') (fin t n d) (inf t') F F' G G' i j h k = absurd G'
mul_mono f (fin s m e) (fin s' m' e') (fin t n d) (fin t' n' d') F F' G G' i j h k =
    let X = m * up e in
    let X' = m' * up e' in
    let Y = n * up d in
    let Y' = n' * up d' in
    let p = plain_of s m e i in
    let q = plain_of t n d j in
    let p' = plain_of s' m' e' (order.le_trans scalar.zero64 (fin s m e) (fin s' m' e') i h) in
    let q' = plain_of t' n' d' (order.le_trans scalar.zero64 (fin t n d) (fin t' n' d') j k) in
    let a = cross s m e s' m' e' p p' h in
    let b = cross t n d t' n' d' q q' k in
    let c = down e * down d in
    let c' = down e' * down d' in
    round_signed f (unlike s t) (unlike s' t') (X * Y) (X' * Y') c c' (mul-pos (down_pos e) (down_pos d)) (mul-pos (down_pos e') (down_pos d'))
    (plain_le (unlike s t) (unlike s' t') (X * Y * c') (X' * Y' * c) (plain_times (unlike s t) (X * Y) c' (plain_product s t X Y p q)) (plain_times (unlike s' t') (X' * Y') c (plain_product s' t' X' Y' p' q'))
    (nat.le_trans (le_of_eq (mul-mul-mul_comm X Y (down e') (down d'))) (nat.le_trans (mul-le-mul a b) (le_of_eq (sym (mul-mul-mul_comm X' Y' (down e) (down d)))))))
  where
    cross : (s : Bool) (m : ℕ) (e : ℤ) (t : Bool) (n : ℕ) (d : ℤ) → Plain s (m * up e) → Plain t (n * up d) → T (le (fin s m e) (fin t n d)) → m * up e * down d ≤ n * up d * down e
    cross s m e t n d p q h = le_plain s t (m * up e * down d) (n * up d * down e) (plain_times s (m * up e) (down d) p) (plain_times t (n * up d) (down e) q) (compared s m e t n d h)

zero_squared : (f : Format) → T (le scalar.zero64 (mul f scalar.zero64 scalar.zero64))
unfolding le mul of_bits
zero_squared binary32 = tt
zero_squared binary64 = tt

pub mul_nonneg : (f : Format) (x y : Float) → T (finite x) → T (finite y) → T (le scalar.zero64 x) → T (le scalar.zero64 y) → T (le scalar.zero64 (mul f x y))
mul_nonneg f x y F G h k =
    let z = order.le_refl scalar.zero64 (finite_number scalar.zero64 zero_finite) in
    order.le_trans scalar.zero64 (mul f scalar.zero64 scalar.zero64) (mul f x y) (zero_squared f) (mul_mono f scalar.zero64 x scalar.zero64 y zero_finite F zero_finite G z z h k)
