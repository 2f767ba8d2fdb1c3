-- The square root and the hypotenuse of numbers are numbers, and not below zero. Assumes nothing.
--     sqrt_nonneg (of x where 0 ≤ x), hypot_nonneg (of any two numbers); no_minus, no_sign (of values from 0 on only -0 has a minus sign)
use Prim.Native.Nat.{ℕ, ◌+◌, ◌-◌, ◌*◌, ◌/◌, ◌^◌, compare}
use mathlib.Core.Bool.{Bool, true, false, cond}
use mathlib.Core.Path.{◌≡◌, subst}
use native.Mathlib.Omega.{arith}
use lib.Dec.{T, eqb}
use lib.IntN.{ℤ}
use lib.Ieee.{Float, nan, inf, fin, Format, prec, low, up, down, size, nearest, le, is_nan, of_bits}
use lib.Ieee.Fits.{up_pos}
use Rattle.root_spec.specs.Root.{isqrt, root_of, sqrt_of, hypot_of}
use Rattle.float64.specs.Scalar.{zero64}
use Rattle.float_laws.proofs.Signed.{signed, zero_of}
use Rattle.float_laws.proofs.Order.{Number}
use Rattle.float_laws.proofs.Round.{units_nonneg}

root_nonneg : (f : Format) (num den : ℕ) → T (le zero64 (root_of f num den))
unfolding root_of
root_nonneg f num den =
    let n = num * 4 ^ low f in
    let k = size (isqrt (n / den)) - prec f in
    let u = den * 4 ^ k in
    let q = isqrt (n / u) in
    units_nonneg f (nearest q (compare (4 * n) ((2 * q + 1) * (2 * q + 1) * u))) k

infinite : T (le zero64 (inf false))
unfolding le of_bits
infinite = tt

pub no_minus : T (le zero64 (inf true)) → ⊥
unfolding le of_bits
no_minus h = h

pub no_sign : (m : ℕ) (e : ℤ) → T (le zero64 (fin true m e)) → m ≡ 0
unfolding le of_bits
no_sign m e h = zero_of m (up e) (up_pos e) (omega (arith, (signed false (0 * 1 * down e) true (m * up e * 1) h).1))

pub sqrt_nonneg : (f : Format) (x : Float) → T (le zero64 x) → T (le zero64 (sqrt_of f x))
unfolding sqrt_of
sqrt_nonneg f nan h = h
sqrt_nonneg f (inf true) h = absurd (no_minus h)
sqrt_nonneg f (inf false) h = h
sqrt_nonneg f (fin true m e) h = rw (no_sign m e h) (subst (λ (n : ℕ). T (le zero64 (fin true n e))) (no_sign m e h) h)
sqrt_nonneg f (fin false m e) h = go (eqb m 0)
  where
    go : (b : Bool) → T (le zero64 (cond b (fin false m e) (root_of f (m * up e) (down e))))
    go true = h
    go false = root_nonneg f (m * up e) (down e)

pub hypot_nonneg : (f : Format) (x y : Float) → Number x → Number y → T (le zero64 (hypot_of f x y))
unfolding hypot_of is_nan
hypot_nonneg f nan y a b = absurd a
hypot_nonneg f (inf s) y a b = infinite
hypot_nonneg f (fin s m e) nan a b = absurd b
hypot_nonneg f (fin s m e) (inf t) a b = infinite
hypot_nonneg f (fin s m e) (fin t n d) a b = root_nonneg f (m * up e * down d * (m * up e * down d) + n * up d * down e * (n * up d * down e)) (down e * down d * (down e * down d))
