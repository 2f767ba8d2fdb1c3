-- Sums with one finite operand, the other any number; and what is finite where a result is. Assumes nothing.
--     add_rises (x ≤ x' gives x + y ≤ x' + y for a finite y, infinite x and x' among them), add_rises_r (the finite operand first), sum_finite, product_finite (the operands of a finite result are finite)
use Prim.Native.Nat.{ℕ}
use mathlib.Core.Bool.{Bool, true, false, cond}
use mathlib.Core.Path.{◌≡◌, refl, subst}
use lib.Dec.{T, eqb}
use lib.IntN.{ℤ}
use lib.Ieee.{Float, nan, inf, fin, Format, unlike, add, mul, le, is_nan}
use lib.Ieee.Scale.{finite}
use Rattle.float_laws.proofs.Order.{Number, finite_number, le_refl, le_number_l, le_number_r, past_infinity}
use Rattle.float_laws.proofs.Sum.{add_mono, add_comm, add_number}
use Rattle.float_monotone.proofs.HypotOrder.{below_infinity, above_infinity}

any_number : (f : Format) (x y : Float) → Number x → T (finite y) → Number (add f x y)
unfolding add is_nan
any_number f nan y n F = absurd n
any_number f (inf s) nan n F = absurd F
any_number f (inf s) (inf t) n F = absurd F
any_number f (inf s) (fin t k d) n F = tt
any_number f (fin s m e) y n F = add_number f (fin s m e) y tt F

infinite_sum : (f : Format) (s : Bool) (y : Float) → T (finite y) → add f (inf s) y ≡ inf s
unfolding add
infinite_sum f s nan F = absurd F
infinite_sum f s (inf t) F = absurd F
infinite_sum f s (fin t k d) F = refl

no_lower : (s : Bool) (m : ℕ) (e : ℤ) → T (le (fin s m e) (inf true)) → ⊥
unfolding le
no_lower s m e h = h

infinities : T (le (inf false) (inf true)) → ⊥
unfolding le
infinities h = h

never : (b s : Bool) → T (finite (cond b nan (inf s))) → ⊥
never true s h = h
never false s h = h

pub add_rises : (f : Format) (x x' y : Float) → T (finite y) → T (le x x') → T (le (add f x y) (add f x' y))
unfolding is_nan
add_rises f nan x' y F h = absurd (le_number_l nan x' h)
add_rises f (inf true) x' y F h = rw (infinite_sum f true y F) (above_infinity (add f x' y) (any_number f x' y (le_number_r (inf true) x' h) F))
add_rises f (inf false) nan y F h = absurd (le_number_r (inf false) nan h)
add_rises f (inf false) (inf true) y F h = absurd (infinities h)
add_rises f (inf false) (inf false) y F h = le_refl (add f (inf false) y) (any_number f (inf false) y tt F)
add_rises f (inf false) (fin t n d) y F h = absurd (past_infinity t n d h)
add_rises f (fin s m e) nan y F h = absurd (le_number_r (fin s m e) nan h)
add_rises f (fin s m e) (inf true) y F h = absurd (no_lower s m e h)
add_rises f (fin s m e) (inf false) y F h = rw (infinite_sum f false y F) (below_infinity (add f (fin s m e) y) (any_number f (fin s m e) y tt F))
add_rises f (fin s m e) (fin t n d) y F h = add_mono f (fin s m e) (fin t n d) y y tt tt F F h (le_refl y (finite_number y F))

pub add_rises_r : (f : Format) (x y y' : Float) → T (finite x) → T (le y y') → T (le (add f x y) (add f x y'))
add_rises_r f x y y' F h = subst (λ (v : Float). T (le v (add f x y'))) (add_comm f y x) (subst (λ (v : Float). T (le (add f y x) v)) (add_comm f y' x) (add_rises f y y' x F h))

-- ---- the operands of a finite result
pub sum_finite : (f : Format) (x y : Float) → T (finite (add f x y)) → T (finite x) × T (finite y)
unfolding add
sum_finite f nan y h = absurd h
sum_finite f (inf s) nan h = absurd h
sum_finite f (inf true) (inf true) h = absurd h
sum_finite f (inf true) (inf false) h = absurd h
sum_finite f (inf false) (inf true) h = absurd h
sum_finite f (inf false) (inf false) h = absurd h
sum_finite f (inf s) (fin t n d) h = absurd h
sum_finite f (fin s m e) nan h = absurd h
sum_finite f (fin s m e) (inf t) h = absurd h
sum_finite f (fin s m e) (fin t n d) h = (tt, tt)

pub product_finite : (f : Format) (x y : Float) → T (finite (mul f x y)) → T (finite x) × T (finite y)
unfolding mul
product_finite f nan y h = absurd h
product_finite f (inf s) nan h = absurd h
product_finite f (inf s) (inf t) h = absurd h
product_finite f (inf s) (fin t n d) h = absurd (never (eqb n 0) (unlike s t) h)
product_finite f (fin s m e) nan h = absurd h
product_finite f (fin s m e) (inf t) h = absurd (never (eqb m 0) (unlike s t) h)
product_finite f (fin s m e) (fin t n d) h = (tt, tt)
