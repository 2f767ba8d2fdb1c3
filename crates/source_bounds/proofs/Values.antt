-- Finite doubles as a sign and a number of units of the smallest, and what the tests say of them. Assumes nothing.
use Prim.Native.Nat.{ℕ, ◌*◌, ◌^◌, ◌≤◌, ◌<◌}
use mathlib.Core.Bool.{Bool, true, false, beq, cond, true≢false}
use mathlib.Core.Path.{◌≡◌, refl, sym, ap, ◌∙◌, subst}
use native.Mathlib.Nat.{le_trans, le_of_eq, mul-pos, mul_assoc, mul_right_comm, mul-le-mul_right, le_of_mul-le-mul_right}
use lib.Dec.{T, eqb}
use lib.Ieee.{Float, nan, inf, fin, binary64, low, up, down, unlike, add, mul, lt, le, fits, is_nan, of_bits}
use lib.Ieee.Exact.{HasValue}
use lib.Ieee.Fits.{down_pos}
use lib.Ieee.Scale.{finite}
use Rattle.root_spec.proofs.Units.{fits_in, ulps, ulps_is}
use Rattle.float64.specs.Scalar.{zero64}
use Rattle.float64.specs.Notation.{◌⊕◌, ◌⊗◌}
use Rattle.float_laws.proofs.Signed.{unsigned}
use Rattle.float_laws.proofs.Order as order
use Rattle.float_laws.proofs.Order.{lt_le, lt_number_r}
use Rattle.float_laws.proofs.Roots.{no_minus}
use Rattle.float_laws.proofs.RootOrder.{le_fractions}
use Rattle.float_bounds.proofs.RoundingError.{ComputedNear, product_near}
use Rattle.source_bounds.specs.Bounds.{least_square, over}

abbrev pub S : ℕ
S = 2 ^ low binary64

-- ---- sizes
pub record Sized (x : Float) : Type 0 where
  pub sign : Bool
  pub size : ℕ
  pub value : HasValue x sign size S

pub sized : (x : Float) → T (finite x) → T (fits binary64 x) → Sized x
sized nan F h = absurd F
sized (inf s) F h = absurd F
sized (fin s m e) F h = record { sign = s; size = ulps binary64 m e; value = (refl, sym (ulps_is binary64 m e (fits_in binary64 s m e h))) }

pub plus_sign : (x : Float) (s : Bool) (a c : ℕ) → T (lt zero64 x) → HasValue x s a c → s ≡ false
unfolding lt of_bits
plus_sign nan s a c h v = absurd v
plus_sign (inf t) s a c h v = absurd v
plus_sign (fin true m e) s a c h v = absurd h
plus_sign (fin false m e) s a c h v = sym v.0

pub minus_le : (x : Float) (a c : ℕ) → HasValue x true a c → T (le x zero64)
unfolding le of_bits
minus_le nan a c v = absurd v
minus_le (inf t) a c v = absurd v
minus_le (fin true m e) a c v = unsigned true (m * up e * 1) false (0 * 1 * down e) tt
minus_le (fin false m e) a c v = absurd (true≢false (sym v.0))

pub le_sizes : (x y : Float) (a b c : ℕ) → 0 < c → HasValue x false a c → HasValue y false b c → T (le x y) → a ≤ b
le_sizes nan y a b c C v w h = absurd v
le_sizes (inf s) y a b c C v w h = absurd v
le_sizes (fin true m e) y a b c C v w h = absurd (true≢false v.0)
le_sizes (fin false m e) nan a b c C v w h = absurd w
le_sizes (fin false m e) (inf t) a b c C v w h = absurd w
le_sizes (fin false m e) (fin true n d) a b c C v w h = absurd (true≢false w.0)
le_sizes (fin false m e) (fin false n d) a b c C v w h =
    let l : m * up e * down d ≤ n * up d * down e = le_fractions m e n d h in
    let i : a * (down e * down d) ≡ m * up e * down d * c = sym (mul_assoc a (down e) (down d)) ∙ ap (λ (z : ℕ). z * down d) (sym v.1) ∙ mul_right_comm (m * up e) c (down d) in
    let j : n * up d * down e * c ≡ b * (down e * down d) = mul_right_comm (n * up d) (down e) c ∙ ap (λ (z : ℕ). z * down e) w.1 ∙ mul_right_comm b (down d) (down e) ∙ mul_assoc b (down e) (down d) in
    le_of_mul-le-mul_right (le_trans (le_of_eq i) (le_trans (mul-le-mul_right c l) (le_of_eq j))) (mul-pos (down_pos e) (down_pos d))

alike : (s : Bool) → unlike s s ≡ false
alike true = refl
alike false = refl

pub square_near : (x : Float) (r : Sized x) → T (finite (x ⊗ x)) → ComputedNear binary64 (x ⊗ x) false (r.size * r.size) S
square_near x r F =
    let a = r.size in
    subst (λ (s : Bool). ComputedNear binary64 (x ⊗ x) s (a * a) S) (alike r.sign) (product_near binary64 r.sign r.sign x x a a r.value r.value F)

-- ---- where a result is finite
no_value : (b s : Bool) → T (finite (cond b nan (inf s))) → ⊥
no_value true s F = F
no_value false s F = F

either_infinite : (b s : Bool) → T (finite (cond b (inf s) nan)) → ⊥
either_infinite true s F = F
either_infinite false s F = F

pub factor_finite : (x y : Float) → T (finite (x ⊗ y)) → T (finite x)
unfolding mul
factor_finite nan y F = F
factor_finite (inf s) nan F = F
factor_finite (inf s) (inf t) F = F
factor_finite (inf s) (fin t n d) F = absurd (no_value (eqb n 0) (unlike s t) F)
factor_finite (fin s m e) y F = tt

pub addends_finite : (x y : Float) → T (finite (x ⊕ y)) → T (finite x) × T (finite y)
unfolding add
addends_finite nan y F = absurd F
addends_finite (inf s) nan F = absurd F
addends_finite (inf s) (inf t) F = absurd (either_infinite (beq s t) s F)
addends_finite (inf s) (fin t n d) F = absurd F
addends_finite (fin s m e) nan F = absurd F
addends_finite (fin s m e) (inf t) F = absurd F
addends_finite (fin s m e) (fin t n d) F = (tt, tt)

below_infinity : (v : Float) → T (lt (inf false) v) → ⊥
unfolding lt
below_infinity nan h = h
below_infinity (inf t) h = h
below_infinity (fin t n d) h = h

-- a number whose square is less than something
pub root_finite : (x v : Float) → T (lt (x ⊗ x) v) → T (finite x)
unfolding mul lt
root_finite nan v h = absurd h
root_finite (inf true) v h = absurd (below_infinity v h)
root_finite (inf false) v h = absurd (below_infinity v h)
root_finite (fin s m e) v h = tt

least_from_zero : T (le zero64 least_square)
unfolding le of_bits
least_from_zero = tt

infinite_over : mul binary64 (inf false) over ≡ inf false
unfolding mul of_bits
infinite_over = refl

pub square_finite : (z v : Float) → T (lt least_square z) → T (lt (z ⊗ over) v) → T (finite z)
unfolding is_nan
square_finite nan v h k = absurd (lt_number_r least_square nan h)
square_finite (inf true) v h k = absurd (no_minus (order.le_trans zero64 least_square (inf true) least_from_zero (lt_le least_square (inf true) h)))
square_finite (inf false) v h k = absurd (below_infinity v (subst (λ (x : Float). T (lt x v)) infinite_over k))
square_finite (fin s m e) v h k = tt

pub square_above_zero : (z : Float) → T (lt least_square z) → T (le zero64 z)
square_above_zero z h = order.le_trans zero64 least_square z least_from_zero (lt_le least_square z h)
