-- Two distances compared by bounds on them, as computed: what the range tests say at one point. Assumes nothing.
--     not_shorter (-1 ≤ dq ≤ dp), surely_shorter (dp and dq within bounds that are apart)
use mathlib.Core.Bool.{true, false, not}
use lib.Dec.{T, not_T}
use lib.Ieee.{Float, nan, inf, fin, binary64, neg, lt, le, fits, is_nan, add, sum, round, mul, of_bits}
use lib.Ieee.Scale.{finite}
use Rattle.float64.specs.Scalar.{zero64, one}
use Rattle.float64.specs.Notation.{◌⊕◌, ◌⊖◌, ◌⊗◌}
use Rattle.float_laws.proofs.Order.{Number, finite_number, zero_finite, le_refl, le_trans, lt_le_trans, le_lt_trans, lt_not_le, le_number_r, lt_number_r, finite_between}
use Rattle.float_laws.proofs.Sum.{add_mono, sub_mono, sub_below}
use Rattle.float_laws.proofs.Product.{mul_mono, mul_nonneg}
use Rattle.float_monotone.proofs.HypotOrder.{below_infinity}
use Rattle.float_monotone.proofs.SumOrder.{add_rises_r, sum_finite, product_finite}
use Rattle.better.specs.Cutting.{tolerance, shorter}

-- ---- the constants
one_finite : T (finite one)
unfolding of_bits
one_finite = tt

minus_one_finite : T (finite (neg one))
unfolding neg of_bits
minus_one_finite = tt

tolerance_finite : T (finite tolerance)
unfolding of_bits
tolerance_finite = tt

tolerance_nonneg : T (le zero64 tolerance)
unfolding le of_bits
tolerance_nonneg = tt

from_zero : T (le zero64 (one ⊕ neg one))
unfolding le neg add sum round of_bits
from_zero = tt

infinite_product : T (le zero64 (tolerance ⊗ inf false))
unfolding le mul of_bits
infinite_product = tt

no_minus_infinity : T (le (neg one) (inf true)) → ⊥
unfolding le neg of_bits
no_minus_infinity h = h

no_minus : T (le zero64 (inf true)) → ⊥
unfolding le of_bits
no_minus h = h

-- ---- the tolerance
-- 1 + d is not below zero
above : (d : Float) → T (le (neg one) d) → T (le zero64 (one ⊕ d))
above d h = le_trans zero64 (one ⊕ neg one) (one ⊕ d) from_zero (add_rises_r binary64 one (neg one) d one_finite h)

scaled : (x : Float) → T (le zero64 x) → T (le zero64 (tolerance ⊗ x))
unfolding is_nan
scaled nan h = absurd (le_number_r zero64 nan h)
scaled (inf true) h = absurd (no_minus h)
scaled (inf false) h = infinite_product
scaled (fin s m e) h = mul_nonneg binary64 tolerance (fin s m e) tolerance_finite tt tolerance_nonneg h

-- ---- not shorter
-- less the tolerance, dq is no larger than before; where it is infinite, dp is too, and nothing is larger
less : (dp d : Float) → T (fits binary64 d) → T (le (neg one) d) → T (le d dp) → Number (d ⊖ tolerance ⊗ (one ⊕ d)) → T (le (d ⊖ tolerance ⊗ (one ⊕ d)) dp)
unfolding is_nan
less dp nan p g h n = absurd (le_number_r (neg one) nan g)
less dp (inf true) p g h n = absurd (no_minus_infinity g)
less dp (inf false) p g h n = let x = inf false ⊖ tolerance ⊗ (one ⊕ inf false) in le_trans x (inf false) dp (below_infinity x n) h
less dp (fin s m e) p g h n =
    let d = fin s m e in
    let t = tolerance ⊗ (one ⊕ d) in
    le_trans (d ⊖ t) d dp (sub_below binary64 d t tt p (scaled (one ⊕ d) (above d g))) h

pub not_shorter : (dp dq : Float) → T (fits binary64 dq) → T (le (neg one) dq) → T (le dq dp) → T (not (shorter dp dq))
not_shorter dp dq p g h =
    let x = dq ⊖ tolerance ⊗ (one ⊕ dq) in
    not_T (shorter dp dq) (λ l. lt_not_le dp x l (less dp dq p g h (lt_number_r dp x l)))

-- ---- shorter
-- dp is at most `highest`, and dq is from `least` to `most`; the tolerance grows with what it is taken of
module _ (dp dq highest least most : Float) (T1 : T (finite (tolerance ⊗ (one ⊕ most)))) (g : T (le (neg one) least)) (h : T (le dp highest)) (i : T (le least dq)) (j : T (le dq most)) where
  most_finite : T (finite most)
  most_finite = (sum_finite binary64 one most (product_finite binary64 tolerance (one ⊕ most) T1).1).1

  least_finite : T (finite least)
  least_finite = finite_between (neg one) least most minus_one_finite most_finite g (le_trans least dq most i j)

  value_finite : T (finite dq)
  value_finite = finite_between least dq most least_finite most_finite i j

  from : T (le zero64 (one ⊕ dq))
  from = above dq (le_trans (neg one) least dq g i)

  upto : T (le (one ⊕ dq) (one ⊕ most))
  upto = add_mono binary64 one one dq most one_finite one_finite value_finite most_finite (le_refl one (finite_number one one_finite)) j

  sum_is_finite : T (finite (one ⊕ dq))
  sum_is_finite = finite_between zero64 (one ⊕ dq) (one ⊕ most) zero_finite (product_finite binary64 tolerance (one ⊕ most) T1).1 from upto

  less_tolerance : T (le (tolerance ⊗ (one ⊕ dq)) (tolerance ⊗ (one ⊕ most)))
  less_tolerance = mul_mono binary64 tolerance tolerance (one ⊕ dq) (one ⊕ most) tolerance_finite tolerance_finite sum_is_finite (product_finite binary64 tolerance (one ⊕ most) T1).1 tolerance_nonneg from (le_refl tolerance (finite_number tolerance tolerance_finite)) upto

  pub surely_shorter : T (lt highest (least ⊖ tolerance ⊗ (one ⊕ most))) → T (shorter dp dq)
  surely_shorter k =
      let t = tolerance ⊗ (one ⊕ dq) in
      let u = tolerance ⊗ (one ⊕ most) in
      let F = finite_between zero64 t u zero_finite T1 (scaled (one ⊕ dq) from) less_tolerance in
      lt_le_trans dp (least ⊖ u) (dq ⊖ t) (le_lt_trans dp highest (least ⊖ u) h k) (sub_mono binary64 least dq u t least_finite value_finite T1 F i less_tolerance)
