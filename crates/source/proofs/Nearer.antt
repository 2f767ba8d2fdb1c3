-- The lesser of a point source's distances at two ends that lie on one side of its foot is that at the nearer end, where that is finite. Assumes nothing.
--     left_least      the foot lies before both
--     right_least     it lies behind both: where both distances compare equal the left one is given, so the nearer is to be above zero, for the sign of a zero
use mathlib.Core.Path.{◌≡◌, refl, sym}
use mathlib.Core.Bool.{Bool, true, false, not, cond}
use mathlib.Core.Logic.{inl, inr}
use lib.Dec.{T, not_T}
use lib.Ieee.{Float, nan, inf, fin, binary64, add, sub, neg, lt, le, is_nan, fits}
use lib.Ieee.Bits.{is_false}
use lib.Ieee.Fits.{add-fits}
use lib.Ieee.Scale.{finite}
use Rattle.nat_laws.proofs.Tests.{holds, fails}
use Rattle.root_spec.specs.Root.{hypot_of}
use Rattle.float64.specs.Scalar.{zero64, min_of, abs_of}
use Rattle.float64.specs.Notation.{◌⊕◌, ◌⊖◌}
use Rattle.float_laws.proofs.Order.{Number, finite_number, le_number_l, le_number_r, lt_le, le_refl, le_trans, lt_not_le, not_lt_le, le_antisym, lt_number_r, eq_same, eq_le, neg_le, neg_zero_le}
use Rattle.float_laws.proofs.Sum.{add_mono, sub_mono, sub_number, sub_nonneg, sub_nonpos}
use Rattle.float_laws.proofs.MinMax.{abs_number, abs_nonneg, le_abs, neg_abs_le, abs_le}
use Rattle.float_monotone.proofs.HypotOrder.{hypot_mono, below_infinity}
use Rattle.source.specs.declared.Src.TheVariants.{Point}
use Rattle.source.specs.Distance.{edge_of}

-- ---- a finite result has finite parts
sum_l : (h s : Float) → T (finite (h ⊕ s)) → T (finite h)
unfolding add
sum_l nan s t = t
sum_l (inf b) nan t = t
sum_l (inf true) (inf true) t = t
sum_l (inf true) (inf false) t = t
sum_l (inf false) (inf true) t = t
sum_l (inf false) (inf false) t = t
sum_l (inf b) (fin c n d) t = t
sum_l (fin b m e) s t = tt

sum_r : (h s : Float) → T (finite (h ⊕ s)) → T (finite s)
unfolding add
sum_r nan s t = absurd t
sum_r (inf b) nan t = t
sum_r (inf true) (inf true) t = t
sum_r (inf true) (inf false) t = t
sum_r (inf false) (inf true) t = t
sum_r (inf false) (inf false) t = t
sum_r (inf b) (fin c n d) t = tt
sum_r (fin b m e) nan t = t
sum_r (fin b m e) (inf c) t = t
sum_r (fin b m e) (fin c n d) t = tt

neg_back : (x : Float) → T (finite (neg x)) → T (finite x)
unfolding neg
neg_back nan t = t
neg_back (inf b) t = t
neg_back (fin b m e) t = tt

difference_l : (a x : Float) → T (finite (a ⊖ x)) → T (finite a)
unfolding sub
difference_l a x t = sum_l a (neg x) t

difference_r : (a x : Float) → T (finite (a ⊖ x)) → T (finite x)
unfolding sub
difference_r a x t = neg_back x (sum_r a (neg x) t)

root_l : (d y : Float) → T (finite (hypot_of binary64 d y)) → T (finite d)
unfolding hypot_of
root_l nan nan t = t
root_l nan (inf b) t = t
root_l nan (fin b m e) t = t
root_l (inf c) y t = t
root_l (fin c n d) y t = tt

root_number : (d y : Float) → T (finite (hypot_of binary64 d y)) → Number y
unfolding hypot_of is_nan
root_number nan nan t = absurd t
root_number (inf c) nan t = absurd t
root_number (fin c n d) nan t = absurd t
root_number d (inf b) t = tt
root_number d (fin b m e) t = tt

-- ---- the distance at the nearer end is not the greater
not_below_infinity : (z : Float) → T (not (lt (inf false) z))
unfolding lt
not_below_infinity nan = tt
not_below_infinity (inf b) = tt
not_below_infinity (fin b m e) = tt

sum_above : (a b s : Float) → T (finite a) → T (finite s) → T (le a b) → T (not (lt (b ⊕ s) (a ⊕ s)))
unfolding add le is_nan
sum_above a nan s F S h = absurd (le_number_r a nan h)
sum_above nan (inf true) s F S h = absurd F
sum_above (inf c) (inf true) s F S h = absurd F
sum_above (fin c n d) (inf true) s F S h = absurd h
sum_above a (inf false) nan F S h = absurd S
sum_above a (inf false) (inf c) F S h = absurd S
sum_above a (inf false) (fin c n d) F S h = not_below_infinity (a ⊕ fin c n d)
sum_above a (fin b m e) s F S h =
    not_T (lt (fin b m e ⊕ s) (a ⊕ s)) (λ l. lt_not_le (fin b m e ⊕ s) (a ⊕ s) l (add_mono binary64 a (fin b m e) s s F tt S S h (le_refl s (finite_number s S))))

module _ (x y s n f : Float) where
  farther : T (le (abs_of (n ⊖ x)) (abs_of (f ⊖ x))) → T (finite (edge_of (Point x y s) n)) → T (not (lt (edge_of (Point x y s) f) (edge_of (Point x y s) n)))
  unfolding edge_of
  farther h t =
      let d = hypot_of binary64 (n ⊖ x) y in
      let F = sum_l d s t in
      sum_above d (hypot_of binary64 (f ⊖ x) y) s F (sum_r d s t) (hypot_mono binary64 (n ⊖ x) (f ⊖ x) y (root_number (n ⊖ x) y F) h)

  end_finite : T (finite (edge_of (Point x y s) n)) → T (finite n)
  unfolding edge_of
  end_finite t = difference_l n x (root_l (n ⊖ x) y (sum_l (hypot_of binary64 (n ⊖ x) y) s t))

  foot_finite : T (finite (edge_of (Point x y s) n)) → T (finite x)
  unfolding edge_of
  foot_finite t = difference_r n x (root_l (n ⊖ x) y (sum_l (hypot_of binary64 (n ⊖ x) y) s t))

-- ---- which end is nearer
at_infinity : (x a : Float) (b : Bool) → T (finite x) → T (finite a) → T (le (abs_of (a ⊖ x)) (abs_of (inf b ⊖ x)))
unfolding sub add neg abs_of
at_infinity nan a b X A = absurd X
at_infinity (inf c) a b X A = absurd X
at_infinity (fin c n d) a b X A = below_infinity (abs_of (a ⊖ fin c n d)) (abs_number (a ⊖ fin c n d) (sub_number binary64 a (fin c n d) A tt))

left_nearer : (x b0 b1 : Float) → T (finite x) → T (finite b0) → T (le x b0) → T (le b0 b1) → T (le (abs_of (b0 ⊖ x)) (abs_of (b1 ⊖ x)))
unfolding is_nan
left_nearer x b0 nan X A h k = absurd (le_number_r b0 nan k)
left_nearer x b0 (inf b) X A h k = at_infinity x b0 b X A
left_nearer x b0 (fin b m e) X A h k =
    let b1 = fin b m e in
    let far = abs_of (b1 ⊖ x) in
    let B = sub_number binary64 b1 x tt X in
    let up = sub_mono binary64 b0 b1 x x A tt X X k (le_refl x (finite_number x X)) in
    let from = sub_nonneg binary64 x b0 X A h in
    abs_le (b0 ⊖ x) far
    (le_trans (neg far) zero64 (b0 ⊖ x) (le_trans (neg far) (neg zero64) zero64 (neg_le zero64 far (abs_nonneg (b1 ⊖ x) B)) neg_zero_le) from)
    (le_trans (b0 ⊖ x) (b1 ⊖ x) far up (le_abs (b1 ⊖ x) B))

right_nearer : (x b0 b1 : Float) → T (finite x) → T (finite b1) → T (le b1 x) → T (le b0 b1) → T (le (abs_of (b1 ⊖ x)) (abs_of (b0 ⊖ x)))
unfolding is_nan
right_nearer x nan b1 X A h k = absurd (le_number_l nan b1 k)
right_nearer x (inf b) b1 X A h k = at_infinity x b1 b X A
right_nearer x (fin b m e) b1 X A h k =
    let b0 = fin b m e in
    let far = abs_of (b0 ⊖ x) in
    let B = sub_number binary64 b0 x tt X in
    let up = sub_mono binary64 b0 b1 x x tt A X X k (le_refl x (finite_number x X)) in
    abs_le (b1 ⊖ x) far
    (le_trans (neg far) (b0 ⊖ x) (b1 ⊖ x) (neg_abs_le (b0 ⊖ x) B) up)
    (le_trans (b1 ⊖ x) zero64 far (sub_nonpos binary64 x b1 X A h) (abs_nonneg (b0 ⊖ x) B))

-- ---- the lesser of both
least_l : (d e : Float) → T (finite d) → T (not (lt e d)) → min_of d e ≡ d
unfolding min_of
least_l d e t n = rw (is_false (is_nan d) (finite_number d t), is_false (lt e d) n)

equal_ends : (d e : Float) → T (fits binary64 d) → T (fits binary64 e) → T (lt zero64 e) → Number d → T (not (lt d e)) → T (not (lt e d)) → d ≡ e
equal_ends d e D E p N n k =
    let E' = lt_number_r zero64 e p in
    elim (eq_same d e D E (le_antisym d e (not_lt_le e d E' N k) (not_lt_le d e N E' n))) [ inl same ↦ same | inr z ↦ absurd (lt_not_le zero64 e p (eq_le e zero64 z.1)) ]

least_r : (d e : Float) → T (fits binary64 d) → T (fits binary64 e) → T (lt zero64 e) → T (not (lt d e)) → min_of d e ≡ e
unfolding min_of
least_r d e D E p n = go (is_nan d) refl (lt e d) refl
  where
    go : (b : Bool) → is_nan d ≡ b → (c : Bool) → lt e d ≡ c → cond b e (cond c e d) ≡ e
    go true x c y = refl
    go false x true y = refl
    go false x false y = equal_ends d e D E p (fails (is_nan d) x) n (fails (lt e d) y)

module _ (x y s b0 b1 : Float) where
  edge_fits : (b : Float) → T (fits binary64 (edge_of (Point x y s) b))
  unfolding edge_of
  edge_fits b = add-fits binary64 (hypot_of binary64 (b ⊖ x) y) s

  pub left_least : lt x b0 ≡ true → le b0 b1 ≡ true → finite (edge_of (Point x y s) b0) ≡ true → edge_of (Point x y s) b0 ≡ min_of (edge_of (Point x y s) b0) (edge_of (Point x y s) b1)
  left_least h k f =
      let t = holds (finite (edge_of (Point x y s) b0)) f in
      sym (least_l (edge_of (Point x y s) b0) (edge_of (Point x y s) b1) t
      (farther x y s b0 b1 (left_nearer x b0 b1 (foot_finite x y s b0 b1 t) (end_finite x y s b0 b1 t) (lt_le x b0 (holds (lt x b0) h)) (holds (le b0 b1) k)) t))

  pub right_least : lt b1 x ≡ true → le b0 b1 ≡ true → lt zero64 (edge_of (Point x y s) b1) ≡ true → finite (edge_of (Point x y s) b1) ≡ true
      → edge_of (Point x y s) b1 ≡ min_of (edge_of (Point x y s) b0) (edge_of (Point x y s) b1)
  right_least h k p f =
      let t = holds (finite (edge_of (Point x y s) b1)) f in
      sym (least_r (edge_of (Point x y s) b0) (edge_of (Point x y s) b1) (edge_fits b0) (edge_fits b1) (holds (lt zero64 (edge_of (Point x y s) b1)) p)
      (farther x y s b1 b0 (right_nearer x b0 b1 (foot_finite x y s b1 b0 t) (end_finite x y s b1 b0 t) (lt_le b1 x (holds (lt b1 x) h)) (holds (le b0 b1) k)) t))
