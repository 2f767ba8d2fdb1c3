-- One over a number that is bounded from below, as computed. Assumes nothing.
--     reciprocal_from_zero, reciprocal_upto (0 < a ≤ x gives 0 ≤ 1 / x ≤ 1 / a)
use Prim.Native.Nat.{ℕ, zero, suc, ◌*◌, ◌≤◌}
use mathlib.Core.Bool.{Bool, true, false, cond}
use mathlib.Core.Path.{◌≡◌, sym, ap, ◌∙◌, subst}
use native.Mathlib.Nat.{mul-pos, mul_comm, zero-lt-suc}
use native.Mathlib.Omega.{arith}
use lib.Dec.{T, ltb→lt, eqb-suc-zero}
use lib.IntN.{ℤ}
use lib.Ieee.{Float, nan, inf, fin, Format, up, down, round, div, lt, le, of_bits}
use lib.Ieee.Fits.{up_pos}
use lib.Ieee.Order.{round_mono}
use lib.Ieee.Scale.{finite}
use Rattle.float64.specs.Scalar as scalar
use Rattle.float64.proofs.Scalar.{one_is}
use Rattle.float_laws.proofs.Order.{lt_le_trans}
use Rattle.float_laws.proofs.Round.{round_nonneg}
use Rattle.float_laws.proofs.RootOrder.{le_fractions}

-- a finite number above zero has a plus sign and a significand above zero
above : (P : Float → Type 0) → ((m : ℕ) (e : ℤ) → P (fin false (suc m) e)) → (x : Float) → T (finite x) → T (lt scalar.zero64 x) → P x
unfolding lt of_bits
above P here nan F h = absurd F
above P here (inf s) F h = absurd F
above P here (fin true m e) F h = absurd h
above P here (fin false zero e) F h = absurd (let z : ⊥ = omega (arith, ltb→lt (0 * 1 * down e) (0 * up e * 1) h) in z)
above P here (fin false (suc m) e) F h = here m e

one_over : (f : Format) (m : ℕ) (e : ℤ) → div f scalar.one (fin false (suc m) e) ≡ round f false (1 * 1 * down e) (suc m * up e * 1)
unfolding div
one_over f m e =
    ap (λ (v : Float). div f v (fin false (suc m) e)) one_is
    ∙ ap (λ (b : Bool). cond b (inf false) (round f false (1 * 1 * down e) (suc m * up e * 1))) (eqb-suc-zero m)

pub reciprocal_from_zero : (f : Format) (x : Float) → T (finite x) → T (lt scalar.zero64 x) → T (le scalar.zero64 (div f scalar.one x))
reciprocal_from_zero f = above (λ (x : Float). T (le scalar.zero64 (div f scalar.one x))) (λ m e. subst (λ (v : Float). T (le scalar.zero64 v)) (sym (one_over f m e)) (round_nonneg f (1 * 1 * down e) (suc m * up e * 1)))

crossed : (M N p q : ℕ) → M * q ≤ N * p → 1 * 1 * q * (M * 1) ≤ 1 * 1 * p * (N * 1)
crossed M N p q h = omega (arith, mul_comm M q, mul_comm N p)

pub reciprocal_upto : (f : Format) (a x : Float) → T (finite a) → T (finite x) → T (lt scalar.zero64 a) → T (le a x) → T (le (div f scalar.one x) (div f scalar.one a))
reciprocal_upto f a x F G h k =
    above (λ (v : Float). T (le v x) → T (le (div f scalar.one x) (div f scalar.one v)))
    (λ m e. above (λ (v : Float). T (le (fin false (suc m) e) v) → T (le (div f scalar.one v) (div f scalar.one (fin false (suc m) e))))
    (λ n d i. subst (λ (v : Float). T (le v (div f scalar.one (fin false (suc m) e)))) (sym (one_over f n d))
    (subst (λ (v : Float). T (le (round f false (1 * 1 * down d) (suc n * up d * 1)) v)) (sym (one_over f m e))
    (round_mono f (1 * 1 * down d) (suc n * up d * 1) (1 * 1 * down e) (suc m * up e * 1) (omega (arith, mul-pos (zero-lt-suc n) (up_pos d))) (omega (arith, mul-pos (zero-lt-suc m) (up_pos e)))
    (crossed (suc m * up e) (suc n * up d) (down e) (down d) (le_fractions (suc m) e (suc n) d i)))))
    x G (lt_le_trans scalar.zero64 a x h k))
    a F h k
