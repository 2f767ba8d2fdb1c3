-- A segment that goes back along an edge gives it no window on that side: `goes_back`. Assumes nothing.
-- The side's normal rises from the edge by what the segment advances over its length. The length is the root of a sum of squares. Where that is a number, the root has a plus sign, so the rise is at most
-- zero. Where it is none, neither is the square, and then no foot lies on the segment.
use Rattle.std.specs.Prelude.{Some, None}
use Prim.Native.Nat.{ℕ, zero, suc, ◌+◌, ◌-◌, ◌*◌, ◌/◌, ◌%◌, ◌^◌, compare}
use mathlib.Core.Bool.{Bool, true, false, cond, ◌&&◌}
use mathlib.Core.Logic.{◌⊎◌, inl, inr}
use mathlib.Core.Path.{◌≡◌, refl, sym, ap, ◌∙◌, subst}
use native.Mathlib.Omega.{arith}
use lib.Dec.{T, eqb, ltb, ltb→lt, eqb-suc-zero}
use lib.IntN.{ℤ, pos}
use lib.Ieee.{Float, nan, inf, fin, Format, binary64, prec, low, emax, up, down, size, nearest, odd, units, round, neg, sum, add, mul, div, lt, le, of_bits}
use lib.Ieee.Fits.{round_is, and_l, and_r}
use lib.Ieee.Scale.{finite}
use Rattle.root_spec.specs.Root.{isqrt, root_of, sqrt_of}
use Rattle.float64.specs.Scalar.{zero64, max_of, abs_of}
use Rattle.float64.specs.Notation.{◌⊕◌, ◌⊖◌, ◌⊗◌, ◌⊘◌}
use Rattle.float_laws.proofs.Order.{le_trans, neg_le, neg_zero_le}
use Rattle.float_laws.proofs.Round.{round_not, round_nonneg}
use Rattle.source_windows.specs.declared.EdgeSegment.{EdgeSegment}
use Rattle.source_windows.specs.declared.Normal.{Normal}
use Rattle.source_windows.specs.declared.Normal.TheVariants.{Left, Right}
use Rattle.source_windows.specs.Tolerance.{narrowest, upright}
use Rattle.source_windows.specs.Segment.{in_frame_of, nx_of, ny_of, feet_of, wave_of, side_window_of, segment_window_of}
use Rattle.source_windows.specs.Back.{advance_of, goes_back_along}
use Rattle.source_windows.proofs.Ends.{if_either}

-- ---- signs
-- a number of sign s
data Signed (s : Bool) : Float → Type 0 where
  infinite : Signed s (inf s)
  exact : (m : ℕ) (e : ℤ) → Signed s (fin s m e)

odd_signed : (d : ℕ) (s : Bool) (q k l : ℕ) → Signed s (odd d s q k l)
unfolding odd
odd_signed d s zero k l = exact zero (pos zero)
odd_signed d s (suc q) k l = exact _ _

units_signed : (f : Format) (s : Bool) (q k : ℕ) → Signed s (units f s q k)
unfolding units
units_signed f s q k = if_either (Signed s) (ltb (q * 2 ^ k) (2 ^ (low f + suc (emax f)))) (odd_signed (suc (prec f)) s q k (low f)) infinite

round_sign : (f : Format) (s : Bool) (a c : ℕ) → Signed s (round f s a c)
round_sign f s a c =
    let n = a * 2 ^ low f in
    let k = size (n / c) - prec f in
    subst (Signed s) (sym (round_is f s a c)) (units_signed f s (nearest (n / (c * 2 ^ k)) (compare (n % (c * 2 ^ k) * 2) (c * 2 ^ k))) k)

root_sign : (f : Format) (a c : ℕ) → Signed false (root_of f a c)
unfolding root_of
root_sign f a c =
    let n = a * 4 ^ low f in
    let k = size (isqrt (n / c)) - prec f in
    let u = c * 4 ^ k in
    let q = isqrt (n / u) in
    units_signed f false (nearest q (compare (4 * n) ((2 * q + 1) * (2 * q + 1) * u))) k

-- ---- the root of a sum of squares
square_sign : (f : Format) (x : Float) → (x ≡ nan) ⊎ Signed false (mul f x x)
unfolding mul
square_sign f nan = inl refl
square_sign f (inf true) = inr infinite
square_sign f (inf false) = inr infinite
square_sign f (fin true m e) = inr (round_sign f false (m * up e * (m * up e)) (down e * down e))
square_sign f (fin false m e) = inr (round_sign f false (m * up e * (m * up e)) (down e * down e))

sum_sign : (f : Format) {x y : Float} → Signed false x → Signed false y → Signed false (add f x y)
unfolding add sum
sum_sign f infinite infinite = infinite
sum_sign f infinite (exact n d) = infinite
sum_sign f (exact m e) infinite = infinite
sum_sign f (exact m e) (exact n d) = round_sign f false (m * up e * down d + n * up d * down e) (down e * down d)

sum_none : (f : Format) (x : Float) → add f x nan ≡ nan
unfolding add
sum_none f nan = refl
sum_none f (inf s) = refl
sum_none f (fin s m e) = refl

none_squared : (f : Format) (x : Float) → x ≡ nan → mul f x x ≡ nan
unfolding mul
none_squared f x e = ap (λ (v : Float). mul f v v) e

squares_sign : (f : Format) (x y : Float) → Signed false (mul f x x) → (add f (mul f x x) (mul f y y) ≡ nan) ⊎ Signed false (add f (mul f x x) (mul f y y))
squares_sign f x y h = elim (square_sign f y) [ inl e ↦ inl (ap (add f (mul f x x)) (none_squared f y e) ∙ sum_none f (mul f x x)) | inr k ↦ inr (sum_sign f h k) ]

sqrt_sign : (f : Format) {x : Float} → Signed false x → Signed false (sqrt_of f x)
unfolding sqrt_of
sqrt_sign f infinite = infinite
sqrt_sign f (exact m e) = if_either (Signed false) (eqb m 0) (exact m e) (root_sign f (m * up e) (down e))

-- ---- a rise
-- a finite number below zero has a minus sign
below : (P : Float → Type 0) → ((m : ℕ) (e : ℤ) → P (fin true (suc m) e)) → (x : Float) → T (finite x) → T (lt x zero64) → P x
unfolding lt of_bits
below P here nan F h = absurd F
below P here (inf s) F h = absurd F
below P here (fin false m e) F h = absurd (let z : ⊥ = omega (arith, ltb→lt (m * up e * 1) (0 * 1 * down e) h) in z)
below P here (fin true zero e) F h = absurd (let z : ⊥ = omega (arith, ltb→lt 0 (0 * up e * 1 + 0 * 1 * down e) h) in z)
below P here (fin true (suc m) e) F h = here m e

round_below : (f : Format) (a c : ℕ) → T (le (round f true a c) zero64)
round_below f a c = subst (λ (v : Float). T (le v zero64)) (sym (round_not f false a c)) (le_trans (neg (round f false a c)) (neg zero64) zero64 (neg_le zero64 (round f false a c) (round_nonneg f a c)) neg_zero_le)

over_below : (f : Format) (m : ℕ) (e : ℤ) {y : Float} → Signed false y → T (le (div f (fin true (suc m) e) y) zero64)
unfolding div le of_bits
over_below f m e infinite = tt
over_below f m e (exact n d) =
    if_either (λ (v : Float). T (le v zero64)) (eqb n 0) (subst (λ (b : Bool). T (le (cond b nan (inf true)) zero64)) (sym (eqb-suc-zero m)) tt) (round_below f (suc m * up e * down d) (n * up d * down e))

quotient_below : (f : Format) (x y : Float) → T (finite x) → T (lt x zero64) → Signed false y → T (le (div f x y) zero64)
quotient_below f x y F h k = below (λ (v : Float). T (le (div f v y) zero64)) (λ m e. over_below f m e k) x F h

-- ---- a segment
rise_is : (g : EdgeSegment) (n : Normal) → ny_of g n ≡ advance_of g.dx n ⊘ g.sl
unfolding ny_of advance_of
rise_is g Left = refl
rise_is g Right = refl

flat : T (le zero64 narrowest)
unfolding le of_bits
flat = tt

taken : {A : Type 0} (b : Bool) (x y : A) → T b → cond b x y ≡ x
taken true x y t = refl
taken false x y t = absurd t

-- where the length is a number
no_rise : (g : EdgeSegment) (l : Float) (n : Normal) → T (finite (advance_of g.dx n)) → T (lt (advance_of g.dx n) zero64) → Signed false g.sl → side_window_of g l n ≡ None
unfolding side_window_of
no_rise g l n F h k =
    taken (le (ny_of g n) narrowest) None (wave_of (feet_of g l) g (nx_of g n) (ny_of g n) l)
    (subst (λ (v : Float). T (le v narrowest)) (sym (rise_is g n)) (le_trans (advance_of g.dx n ⊘ g.sl) zero64 narrowest (quotient_below binary64 (advance_of g.dx n) g.sl F h k) flat))

-- where it is none
quotient_none : (f : Format) (x : Float) → div f x nan ≡ nan
unfolding div
quotient_none f nan = refl
quotient_none f (inf s) = refl
quotient_none f (fin s m e) = refl

product_none : (f : Format) (x : Float) → mul f x nan ≡ nan
unfolding mul
product_none f nan = refl
product_none f (inf s) = refl
product_none f (fin s m e) = refl

not_below_none : (x : Float) → le x nan ≡ false
unfolding le
not_below_none nan = refl
not_below_none (inf s) = refl
not_below_none (fin s m e) = refl

and_false : (a : Bool) → a && false ≡ false
and_false true = refl
and_false false = refl

no_feet : (g : EdgeSegment) (l : Float) → g.sl ≡ nan → g.ll ≡ nan → feet_of g l ≡ None
unfolding feet_of lt
no_feet g l s q =
    let base = neg g.ax ⊗ g.dx ⊖ g.ay ⊗ g.dy in
    let upright-none : lt (upright ⊗ g.sl) (abs_of g.dx) ≡ false = ap (λ (v : Float). lt v (abs_of g.dx)) (ap (λ (v : Float). upright ⊗ v) s ∙ product_none binary64 upright) in
    let outside : (le zero64 base && le base g.ll) ≡ false = ap (λ (v : Float). le zero64 base && le base v) q ∙ ap (λ (b : Bool). le zero64 base && b) (not_below_none base) ∙ and_false (le zero64 base) in
    rw (upright-none, outside)

no_length : (g : EdgeSegment) (l : Float) (n : Normal) → g.sl ≡ nan → g.ll ≡ nan → side_window_of g l n ≡ None
unfolding side_window_of wave_of le
no_length g l n s q =
    let rise : ny_of g n ≡ nan = rise_is g n ∙ ap (λ (v : Float). advance_of g.dx n ⊘ v) s ∙ quotient_none binary64 (advance_of g.dx n) in
    let open' : le (ny_of g n) narrowest ≡ false = ap (λ (v : Float). le v narrowest) rise in
    rw (open', no_feet g l s q)

numbered : (x : Float) (n : Normal) → T (finite (advance_of x n)) → x ≡ nan → ⊥
unfolding advance_of neg
numbered x Left F e = subst (λ (v : Float). T (finite v)) e F
numbered x Right F e = subst (λ (v : Float). T (finite (neg v))) e F

framed : (b : Bool) (g : EdgeSegment) (l : Float) (n : Normal) → side_window_of g l n ≡ None → segment_window_of (cond b None (Some g)) l n ≡ None
unfolding segment_window_of
framed true g l n h = refl
framed false g l n h = h

root_none : (f : Format) (x : Float) → x ≡ nan → sqrt_of f x ≡ nan
unfolding sqrt_of
root_none f x e = ap (sqrt_of f) e

pub goes_back : (ax ay bx by l : Float) (n : Normal) → T (goes_back_along ax bx n) → segment_window_of (in_frame_of ax ay bx by l) l n ≡ None
unfolding in_frame_of goes_back_along
goes_back ax ay bx by l n t =
    let a = neg (max_of ay zero64) in
    let b = neg (max_of by zero64) in
    let dx = bx ⊖ ax in
    let dy = b ⊖ a in
    let ll = dx ⊗ dx ⊕ dy ⊗ dy in
    let g : EdgeSegment = record { ax = ax; ay = a; dx = dx; dy = dy; ll = ll; sl = sqrt_of binary64 ll } in
    let h = and_l (lt (advance_of dx n) zero64) (finite (advance_of dx n)) t in
    let F = and_r (lt (advance_of dx n) zero64) (finite (advance_of dx n)) t in
    let square : Signed false (dx ⊗ dx) = elim (square_sign binary64 dx) [ inl e ↦ absurd (numbered dx n F e) | inr k ↦ k ] in
    framed (le ll ((narrowest ⊗ l) ⊗ (narrowest ⊗ l))) g l n
    (elim (squares_sign binary64 dx dy square) [ inl e ↦ no_length g l n (root_none binary64 ll e) e | inr k ↦ no_rise g l n F h (sqrt_sign binary64 k) ])
