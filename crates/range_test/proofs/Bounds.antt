-- The distances of a source from lo to hi lie between its lowest and its highest there, as computed. A point's fall up to its foot and rise from there on, since the hypotenuse
-- rises with its leg along the edge; a line's rise or fall by the sign of its direction. Assumes nothing.
--     edge_low_lem, edge_high_lem (the bounds), edge_from_minus_one (what the guard tells)
use mathlib.Core.Logic.{inl, inr}
use lib.Dec.{T}
use lib.Ieee.{Float, binary64, neg, lt, le, fits, add, sum, round, of_bits}
use lib.Ieee.Scale.{finite}
use Rattle.nat_laws.proofs.Tests.{branch}
use Rattle.root_spec.specs.Root.{hypot_of}
use Rattle.float64.specs.Scalar.{zero64, one, min_of, max_of, abs_of}
use Rattle.float64.specs.Notation.{◌⊕◌, ◌⊖◌, ◌⊗◌}
use Rattle.float_laws.proofs.Order.{Number, finite_number, zero_finite, le_refl, le_trans, lt_le, le_total, not_le_lt, le_number_l, le_number_r, neg_le, neg_zero_le}
use Rattle.float_laws.proofs.MinMax.{min_le_l, min_le_r, max_ge_l, max_ge_r, abs_nonneg, le_abs, neg_abs_le, abs_le}
use Rattle.float_laws.proofs.Sum.{sub_mono, sub_number, sub_nonneg, sub_nonpos}
use Rattle.float_laws.proofs.Roots.{hypot_nonneg}
use Rattle.float_monotone.proofs.HypotOrder.{hypot_mono, hypot_leg}
use Rattle.float_monotone.proofs.ProductOrder.{mul_rises, mul_falls}
use Rattle.float_monotone.proofs.SumOrder.{add_rises, add_rises_r, sum_finite}
use Rattle.source.specs.declared.Src.{Src}
use Rattle.source.specs.declared.Src.TheVariants.{Point, Line}
use Rattle.source.specs.Distance.{edge_of, lowest_of}
use Rattle.better.proofs.Points.{Inside}
use Rattle.range_test.specs.Range.{highest_of, nearest_of, from_minus_one, finite_source, Across}

-- ---- the numbers of a source
abbrev pub Finite : Src → Type 0
Finite (Point x y s) = T (finite x) × (T (finite y) × T (finite s))
Finite (Line ux uy c) = T (finite ux) × T (finite c)

pub finite_source_lem : (p : Src) → T (finite_source p) → Finite p
unfolding finite_source
finite_source_lem (Point x y s) h =
    let a = sum_finite binary64 (x ⊕ y) s h in
    let b = sum_finite binary64 x y a.0 in
    (b.0, (b.1, a.1))
finite_source_lem (Line ux uy c) h = sum_finite binary64 ux c h

-- ---- magnitudes on one side of zero
neg_abs_zero : (w : Float) → Number w → T (le (neg (abs_of w)) zero64)
neg_abs_zero w n = le_trans (neg (abs_of w)) (neg zero64) zero64 (neg_le zero64 (abs_of w) (abs_nonneg w n)) neg_zero_le

rises_from_zero : (a w : Float) → T (le zero64 a) → T (le a w) → T (le (abs_of a) (abs_of w))
rises_from_zero a w h k =
    let n = le_number_r a w k in
    abs_le a (abs_of w) (le_trans (neg (abs_of w)) zero64 a (neg_abs_zero w n) h) (le_trans a w (abs_of w) k (le_abs w n))

falls_to_zero : (a w : Float) → T (le w a) → T (le a zero64) → T (le (abs_of a) (abs_of w))
falls_to_zero a w k h =
    let n = le_number_l w a k in
    abs_le a (abs_of w) (le_trans (neg (abs_of w)) w a (neg_abs_le w n) k) (le_trans a zero64 (abs_of w) h (abs_nonneg w n))

same : (x : Float) → T (finite x) → T (le x x)
same x F = le_refl x (finite_number x F)

minus_one_sum : T (le (neg one) (zero64 ⊕ neg one))
unfolding le neg add sum round of_bits
minus_one_sum = tt

-- ---- a point
module _ (x y s : Float) (X : T (finite x)) (Y : T (finite y)) (S : T (finite s)) where
  further : (z w : Float) → T (le (abs_of (z ⊖ x)) (abs_of (w ⊖ x))) → T (le (edge_of (Point x y s) z) (edge_of (Point x y s) w))
  unfolding edge_of
  further z w h = add_rises binary64 (hypot_of binary64 (z ⊖ x) y) (hypot_of binary64 (w ⊖ x) y) s S (hypot_mono binary64 (z ⊖ x) (w ⊖ x) y (finite_number y Y) h)

  -- right of the foot, and left of it
  right : (z w : Float) → T (finite z) → T (finite w) → T (le x z) → T (le z w) → T (le (edge_of (Point x y s) z) (edge_of (Point x y s) w))
  right z w Z W h k = further z w (rises_from_zero (z ⊖ x) (w ⊖ x) (sub_nonneg binary64 x z X Z h) (sub_mono binary64 z w x x Z W X X k (same x X)))

  left : (z w : Float) → T (finite z) → T (finite w) → T (le z x) → T (le w z) → T (le (edge_of (Point x y s) z) (edge_of (Point x y s) w))
  left z w Z W h k = further z w (falls_to_zero (z ⊖ x) (w ⊖ x) (sub_mono binary64 w z x x W Z X X k (same x X)) (sub_nonpos binary64 x z X Z h))

  from_foot : (z : Float) → T (finite z) → T (fits binary64 y) → T (le (abs_of y ⊕ s) (edge_of (Point x y s) z))
  unfolding edge_of
  from_foot z Z p = add_rises binary64 (abs_of y) (hypot_of binary64 (z ⊖ x) y) s S (hypot_leg binary64 (z ⊖ x) y (sub_number binary64 z x Z X) (finite_number y Y) p)

  -- a carried distance of -1 or more
  point_from_lem : (z : Float) → T (finite z) → T (le (neg one) s) → T (le (neg one) (edge_of (Point x y s) z))
  unfolding edge_of
  point_from_lem z Z h =
      let r = hypot_of binary64 (z ⊖ x) y in
      le_trans (neg one) (zero64 ⊕ neg one) (r ⊕ s) minus_one_sum
      (le_trans (zero64 ⊕ neg one) (zero64 ⊕ s) (r ⊕ s) (add_rises_r binary64 zero64 (neg one) s zero_finite h)
      (add_rises binary64 zero64 r s S (hypot_nonneg binary64 (z ⊖ x) y (sub_number binary64 z x Z X) (finite_number y Y))))

-- ---- a line
module _ (ux uy c : Float) (U : T (finite ux)) (C : T (finite c)) where
  upward : (z w : Float) → T (finite z) → T (finite w) → T (le zero64 ux) → T (le z w) → T (le (edge_of (Line ux uy c) z) (edge_of (Line ux uy c) w))
  unfolding edge_of
  upward z w Z W h k = add_rises_r binary64 c (ux ⊗ z) (ux ⊗ w) C (mul_rises binary64 ux z w U Z W h k)

  downward : (z w : Float) → T (finite z) → T (finite w) → T (le ux zero64) → T (le z w) → T (le (edge_of (Line ux uy c) w) (edge_of (Line ux uy c) z))
  unfolding edge_of
  downward z w Z W h k = add_rises_r binary64 c (ux ⊗ w) (ux ⊗ z) C (mul_falls binary64 ux z w U Z W h k)

-- ---- from lo to hi
module _ (lo hi : Float) (L : T (finite lo)) (H : T (finite hi)) (z : Float) (g : Inside lo hi z) where
  Z : T (finite z)
  Z = g.point.number

  module _ (x y s : Float) (X : T (finite x)) (Y : T (finite y)) (S : T (finite s)) where
    abbrev at : Float → Float
    at w = edge_of (Point x y s) w

    point_low : T (fits binary64 y) → T (le (nearest_of (Point x y s) lo hi) (at z))
    unfolding nearest_of
    point_low p = branch (λ (v : Float). T (le v (at z))) (lt x lo) (λ t. right x y s X Y S lo z L Z (lt_le x lo t) g.above) (λ t.
        branch (λ (v : Float). T (le v (at z))) (lt hi x) (λ u. left x y s X Y S hi z H Z (lt_le hi x u) g.below) (λ u. from_foot x y s X Y S z Z p))

    point_high : T (le (at z) (highest_of (Point x y s) lo hi))
    unfolding highest_of
    point_high = branch (λ (v : Float). T (le (at z) v)) (le x lo) (λ t. right x y s X Y S z hi Z H (le_trans x lo z t g.above) g.below) (λ t.
        branch (λ (v : Float). T (le (at z) v)) (le hi x) (λ u. left x y s X Y S z lo Z L (le_trans z hi x g.below u) g.above) (λ u.
        elim (le_total x z (finite_number x X) (finite_number z Z)) [
          | inl k ↦
              let e = right x y s X Y S z hi Z H k g.below in
              le_trans (at z) (at hi) (max_of (at lo) (at hi)) e (max_ge_r (at lo) (at hi) (le_number_r (at z) (at hi) e))
          | inr k ↦
              let e = left x y s X Y S z lo Z L k g.above in
              le_trans (at z) (at lo) (max_of (at lo) (at hi)) e (max_ge_l (at lo) (at hi) (le_number_r (at z) (at lo) e))
        ]))

  module _ (ux uy c : Float) (U : T (finite ux)) (C : T (finite c)) where
    abbrev on : Float → Float
    on w = edge_of (Line ux uy c) w

    line_low : T (le (lowest_of (Line ux uy c) lo hi) (on z))
    unfolding lowest_of
    line_low = elim (le_total zero64 ux (finite_number zero64 zero_finite) (finite_number ux U)) [
      | inl k ↦
          let e = upward ux uy c U C lo z L Z k g.above in
          le_trans (min_of (on lo) (on hi)) (on lo) (on z) (min_le_l (on lo) (on hi) (le_number_l (on lo) (on z) e)) e
      | inr k ↦
          let e = downward ux uy c U C z hi Z H k g.below in
          le_trans (min_of (on lo) (on hi)) (on hi) (on z) (min_le_r (on lo) (on hi) (le_number_l (on hi) (on z) e)) e
    ]

    line_near : T (le (nearest_of (Line ux uy c) lo hi) (on z))
    unfolding nearest_of
    line_near = branch (λ (v : Float). T (le v (on z))) (le zero64 ux) (λ t. upward ux uy c U C lo z L Z t g.above) (λ t.
        downward ux uy c U C z hi Z H (lt_le ux zero64 (not_le_lt zero64 ux (finite_number zero64 zero_finite) (finite_number ux U) t)) g.below)

    line_high : T (le (on z) (highest_of (Line ux uy c) lo hi))
    unfolding highest_of
    line_high = branch (λ (v : Float). T (le (on z) v)) (le zero64 ux) (λ t. upward ux uy c U C z hi Z H t g.below) (λ t.
        downward ux uy c U C lo z L Z (lt_le ux zero64 (not_le_lt zero64 ux (finite_number zero64 zero_finite) (finite_number ux U) t)) g.above)

  pub edge_low_lem : (src : Src) → Finite src → Across src → T (le (nearest_of src lo hi) (edge_of src z))
  edge_low_lem (Point x y s) F a = point_low x y s F.0 F.1.0 F.1.1 a
  edge_low_lem (Line ux uy c) F a = line_near ux uy c F.0 F.1

  pub edge_high_lem : (src : Src) → Finite src → T (le (edge_of src z) (highest_of src lo hi))
  edge_high_lem (Point x y s) F = point_high x y s F.0 F.1.0 F.1.1
  edge_high_lem (Line ux uy c) F = line_high ux uy c F.0 F.1

  pub edge_from_minus_one : (src : Src) → Finite src → T (from_minus_one src lo hi) → T (le (neg one) (edge_of src z))
  unfolding from_minus_one
  edge_from_minus_one (Point x y s) F h = point_from_lem x y s F.0 F.1.0 F.1.1 z Z h
  edge_from_minus_one (Line ux uy c) F h = le_trans (neg one) (lowest_of (Line ux uy c) lo hi) (edge_of (Line ux uy c) z) h (line_low ux uy c F.0 F.1)
