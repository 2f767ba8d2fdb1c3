-- The foot of a place on the edge itself stands there: `foot_point`, `foot_line`; and so a window's value at a place beyond it is by its end that is nearer: `eval_beyond`. Assumes nothing.
-- The foot is x and a quotient, whose numerator is a product with zero. Where that product compares equal to zero, so does the quotient, and x and a zero are x again, but for the sign of a zero.
use Prim.Native.Nat.{ℕ, zero, suc, ◌*◌}
use mathlib.Core.Bool.{Bool, true, false, cond, not, ◌&&◌, ◌||◌}
use mathlib.Core.Logic.{inl, inr}
use mathlib.Core.Path.{◌≡◌, refl, sym, ap, ◌∙◌, subst}
use native.Mathlib.Nat.{mul-pos, zero-lt-suc}
use native.Mathlib.Omega.{arith}
use lib.Dec.{T, eqb, eqb→eq, ltb→lt, eqb-suc-zero, not_T}
use lib.IntN.{ℤ, pos}
use lib.Ieee.{Float, nan, inf, fin, Format, binary64, up, down, unlike, round, neg, add, sub, mul, div, eq, lt, le, fits, of_bits}
use lib.Ieee.Bits.{is_true, is_false}
use lib.Ieee.Fits.{and_l, up_pos, down_pos}
use lib.Ieee.Scale.{finite}
use Rattle.nat_laws.proofs.Tests.{by_cases, branch, or_split}
use Rattle.root_spec.specs.Root.{hypot_of}
use Rattle.float64.specs.Scalar.{zero64, clamp_of}
use Rattle.float64.specs.Notation.{◌⊕◌, ◌⊖◌, ◌⊗◌, ◌⊘◌}
use Rattle.float_laws.proofs.Order.{finite_number, le_trans, le_lt_trans, lt_le_trans, lt_not_le, le_antisym, eq_refl, eq_sym, eq_le, neg_neg, neg_le}
use Rattle.float_laws.proofs.Round.{round_zero}
use Rattle.float_laws.proofs.Sum.{sub_below, add_above}
use Rattle.source.specs.declared.Src.TheVariants.{Point, Line}
use Rattle.source.specs.declared.Win.{Win}
use Rattle.source.specs.Distance.{edge_of, free_of, foot_of, eval_of}

-- ---- zeros
-- what compares equal to zero has no significand
zero_form : (P : Float → Type 0) → ((s : Bool) (e : ℤ) → P (fin s 0 e)) → (z : Float) → T (eq z zero64) → P z
unfolding eq of_bits
zero_form P here nan h = absurd h
zero_form P here (inf s) h = absurd h
zero_form P here (fin s zero e) h = here s e
zero_form P here (fin s (suc m) e) h = absurd (let z : ⊥ = omega (arith, mul-pos (zero-lt-suc m) (up_pos e), eqb→eq (suc m * up e * 1) (0 * 1 * down e) (and_l (eqb (suc m * up e * 1) (0 * 1 * down e)) _ h)) in z)

-- between the two zeros
record Flat (z : Float) : Type 0 where
  pub from : T (le zero64 z)
  pub upto : T (le z zero64)

flat : (s : Bool) → Flat (fin s 0 (pos 0))
unfolding le of_bits
flat true = record { from = tt; upto = tt }
flat false = record { from = tt; upto = tt }

over_flat : (f : Format) (s : Bool) (e : ℤ) (k : Float) → T (lt zero64 k) → Flat (div f (fin s 0 e) k)
unfolding div lt of_bits
over_flat f s e nan h = absurd h
over_flat f s e (inf true) h = absurd h
over_flat f s e (inf false) h = flat (unlike s false)
over_flat f s e (fin true n d) h = absurd h
over_flat f s e (fin false zero d) h = absurd (let z : ⊥ = omega (arith, ltb→lt (0 * 1 * down d) (0 * up d * 1) h) in z)
over_flat f s e (fin false (suc n) d) h =
    let c = suc n * up d * down e in
    let none : 0 * up e * down d ≡ 0 = omega arith in
    let here : round f (unlike s false) (0 * up e * down d) c ≡ fin (unlike s false) 0 (pos 0) = ap (λ (a : ℕ). round f (unlike s false) a c) none ∙ round_zero f (unlike s false) c (mul-pos (mul-pos (zero-lt-suc n) (up_pos d)) (down_pos e)) in
    subst Flat (sym (ap (λ (b : Bool). cond b nan (round f (unlike s false) (0 * up e * down d) c)) (eqb-suc-zero n) ∙ here)) (flat (unlike s false))

-- a zero over a number above zero
quotient_flat : (f : Format) (z k : Float) → T (eq z zero64) → T (lt zero64 k) → Flat (div f z k)
quotient_flat f z k h p = zero_form (λ (v : Float). Flat (div f v k)) (λ s e. over_flat f s e k p) z h

minus_zero : T (le zero64 (neg zero64))
unfolding le neg of_bits
minus_zero = tt

neg_flat : (z : Float) → Flat z → T (le zero64 (neg z))
neg_flat z h = le_trans zero64 (neg zero64) (neg z) minus_zero (neg_le z zero64 h.upto)

-- ---- x and a zero
module _ (f : Format) (x : Float) (F : T (finite x)) (d : T (fits f x)) (q : Float) (h : Flat q) where
  sub_flat : T (eq (sub f x q) x)
  unfolding sub
  sub_flat = le_antisym (sub f x q) x (sub_below f x q F d h.from) (add_above f x (neg q) F d (neg_flat q h))

  add_flat : T (eq (add f x q) x)
  unfolding sub
  add_flat = le_antisym (add f x q) x (subst (λ (v : Float). T (le (add f x v) x)) (neg_neg q) (sub_below f x (neg q) F d (neg_flat q h))) (add_above f x q F d h.from)

-- ---- the foot
-- a product with zero that is zero is of a finite number
factor_finite : (f : Format) (y : Float) → T (eq (mul f y zero64) zero64) → T (finite y)
unfolding mul eq of_bits
factor_finite f nan h = absurd h
factor_finite f (inf s) h = absurd h
factor_finite f (fin s m e) h = tt

-- and a finite difference is from one
difference_finite : (f : Format) (a x : Float) → T (finite (sub f a x)) → T (finite x)
unfolding sub add neg
difference_finite f nan nan h = absurd h
difference_finite f (inf s) nan h = absurd h
difference_finite f (fin s m e) nan h = absurd h
difference_finite f nan (inf t) h = absurd h
difference_finite f (inf true) (inf true) h = absurd h
difference_finite f (inf true) (inf false) h = absurd h
difference_finite f (inf false) (inf true) h = absurd h
difference_finite f (inf false) (inf false) h = absurd h
difference_finite f (fin s m e) (inf t) h = absurd h
difference_finite f a (fin t n d) h = tt

pub foot_point : (sx sy s x : Float) → T (fits binary64 x) → T (eq ((sx ⊖ x) ⊗ zero64) zero64) → T (eq (foot_of (Point sx sy s) x zero64) x)
unfolding foot_of
foot_point sx sy s x d h =
    let F : T (finite x) = difference_finite binary64 sx x (factor_finite binary64 (sx ⊖ x) h) in
    branch (λ (v : Float). T (eq v x)) (lt zero64 (zero64 ⊖ sy)) (λ p. add_flat binary64 x F d ((sx ⊖ x) ⊗ zero64 ⊘ (zero64 ⊖ sy)) (quotient_flat binary64 ((sx ⊖ x) ⊗ zero64) (zero64 ⊖ sy) h p)) (λ p. eq_refl x (finite_number x F))

pub foot_line : (ux uy c x : Float) → T (fits binary64 x) → T (eq (ux ⊗ zero64) zero64) → T (eq (x ⊗ zero64) zero64) → T (eq (foot_of (Line ux uy c) x zero64) x)
unfolding foot_of
foot_line ux uy c x d h k =
    let F : T (finite x) = factor_finite binary64 x k in
    branch (λ (v : Float). T (eq v x)) (lt zero64 uy) (λ p. sub_flat binary64 x F d (ux ⊗ zero64 ⊘ uy) (quotient_flat binary64 (ux ⊗ zero64) uy h p)) (λ p. eq_refl x (finite_number x F))

-- ---- a place beyond a window's range
clamp_low : (v lo hi : Float) → T (lt v lo) → clamp_of v lo hi ≡ cond (lt hi lo) hi lo
unfolding clamp_of
clamp_low v lo hi h = ap (λ (b : Bool). let y = cond b lo v in cond (lt hi y) hi y) (is_true (lt v lo) h)

clamp_high : (v lo hi : Float) → T (not (lt v lo)) → T (lt hi v) → clamp_of v lo hi ≡ hi
unfolding clamp_of
clamp_high v lo hi n h = ap (λ (b : Bool). let y = cond b lo v in cond (lt hi y) hi y) (is_false (lt v lo) n) ∙ ap (λ (b : Bool). cond b hi v) (is_true (lt hi v) h)

-- f compares equal to x, which is beyond the range from lo to hi
module _ (f x lo hi : Float) (h : T (eq f x)) where
  f_below : T (lt x lo) → T (lt f lo)
  f_below p = le_lt_trans f x lo (eq_le f x h) p

  f_above : T (lt hi x) → T (lt hi f)
  f_above p = lt_le_trans hi x f p (eq_le x f (eq_sym f x h))

  f_not_below : T (not (lt x lo)) → T (not (lt f lo))
  f_not_below n = not_T (lt f lo) (λ p. not_both (lt x lo) (le_lt_trans x f lo (eq_le x f (eq_sym f x h)) p) n)
    where
      not_both : (b : Bool) → T b → T (not b) → ⊥
      not_both true t u = u
      not_both false t u = t

  outside : T (lt x lo || lt hi x) → (le lo f && le f hi) ≡ false
  outside p = elim (or_split (lt x lo) (lt hi x) p) [
    | inl q ↦ ap (λ (b : Bool). b && le f hi) (is_false (le lo f) (not_T (le lo f) (lt_not_le f lo (f_below q))))
    | inr q ↦ ap (λ (b : Bool). le lo f && b) (is_false (le f hi) (not_T (le f hi) (lt_not_le hi f (f_above q)))) ∙ and_false (le lo f)
  ]
    where
      and_false : (b : Bool) → b && false ≡ false
      and_false true = refl
      and_false false = refl

  clamped : T (lt x lo || lt hi x) → clamp_of f lo hi ≡ clamp_of x lo hi
  clamped p = elim (or_split (lt x lo) (lt hi x) p) [ inl q ↦ low q | inr q ↦ by_cases (λ (b : Bool). clamp_of f lo hi ≡ clamp_of x lo hi) (lt x lo) low (λ n. clamp_high f lo hi (f_not_below n) (f_above q) ∙ sym (clamp_high x lo hi n q)) ]
    where
      low : T (lt x lo) → clamp_of f lo hi ≡ clamp_of x lo hi
      low q = clamp_low f lo hi (f_below q) ∙ sym (clamp_low x lo hi q)

pub eval_beyond : (w : Win) (x : Float) → T (eq (foot_of w.src x zero64) x) → T (lt x w.b0 || lt w.b1 x)
    → eval_of w x zero64 ≡ hypot_of binary64 (x ⊖ clamp_of x w.b0 w.b1) zero64 ⊕ edge_of w.src (clamp_of x w.b0 w.b1)
unfolding eval_of
eval_beyond w x h p =
    let f = foot_of w.src x zero64 in
    let by : Float → Float = λ q. hypot_of binary64 (x ⊖ q) zero64 ⊕ edge_of w.src q in
    ap (λ (b : Bool). cond b (free_of w.src x zero64) (by (clamp_of f w.b0 w.b1))) (outside f x w.b0 w.b1 h p) ∙ ap by (clamped f x w.b0 w.b1 h p)
