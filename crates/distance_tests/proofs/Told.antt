-- What the tests on squares tell: of a hypotenuse, of a source's distance, of its least distance. Assumes nothing.
-- A test certifies a bound on one side (crate source_bounds); the bound on the other side, which that crate's laws ask for too, is a constant: 1e75 above, zero below.
use mathlib.Core.Bool.{Bool, true, false, not, ◌&&◌}
use mathlib.Core.Path.{◌≡◌, refl}
use lib.Dec.{T, not_T}
use lib.Ieee.{Float, nan, inf, fin, binary64, add, mul, lt, le, fits, is_nan, of_bits}
use lib.Ieee.Bits.{of_bits-fits, is_false}
use lib.Ieee.Scale.{finite}
use Rattle.root_spec.specs.Root.{hypot_of}
use Rattle.float64.specs.Scalar.{zero64, min_of, abs_of}
use Rattle.float64.specs.Notation.{◌⊕◌, ◌⊖◌, ◌⊗◌}
use Rattle.float_laws.proofs.Order.{Number, finite_number, zero_finite, le_refl, le_trans, lt_le, lt_le_trans, lt_not_le, le_number_l, le_number_r, finite_between}
use Rattle.float_laws.proofs.Product.{mul_mono}
use Rattle.float_laws.proofs.Sum.{add_number}
use Rattle.float_laws.proofs.MinMax.{min_le_l, min_le_r, max_ge_l}
use Rattle.source.specs.declared.Src.TheVariants.{Point}
use Rattle.source.specs.Distance.{edge_of, lowest_of}
use Rattle.source_bounds.specs.Bounds.{greatest_bound, Encloses, under, over, least_square}
use Rattle.source_bounds.proofs.Values.{square_finite}
use Rattle.source_bounds.proofs.Enclosed.{certified_encloses}
use Rattle.face_distance.specs.Floors.{UpTo, longer_leg}
use Rattle.face_distance.proofs.Floors.{leg_below, hypot_from_zero, sum_number_r, floor_sum}

-- 1e75
abbrev pub far : Float
far = of_bits binary64 0x4f81_afd6_ec0e_1411

far_between : T (lt zero64 far) × T (lt far greatest_bound)
unfolding lt of_bits
far_between = (tt, tt)

factors_finite : T (finite least_square) × T (finite under)
unfolding of_bits
factors_finite = (tt, tt)

factors_from_zero : T (le zero64 least_square) × T (le zero64 under)
unfolding le of_bits
factors_from_zero = (tt, tt)

zero_below : T (lt (zero64 ⊗ zero64) (least_square ⊗ under))
unfolding mul lt of_bits
zero_below = tt

-- ---- a hypotenuse
module _ (d y : Float) (d-fits : T (fits binary64 d)) (y-fits : T (fits binary64 y)) (large : T (lt least_square (d ⊗ d ⊕ y ⊗ y))) where
  abbrev z : Float
  z = d ⊗ d ⊕ y ⊗ y

  pub hypot_least : (lo : Float) → T (fits binary64 lo) → T (lt (lo ⊗ lo) (z ⊗ under)) → T (lt (z ⊗ over) (far ⊗ far)) → T (le lo (hypot_of binary64 d y))
  hypot_least lo lo-fits below above =
      (certified_encloses d y lo far d-fits y-fits lo-fits (of_bits-fits binary64 0x4f81_afd6_ec0e_1411) (record { large = large; below = below; above = above; positive = far_between.0; small = far_between.1 })).from

  pub hypot_most : (hi : Float) → T (fits binary64 hi) → T (lt (z ⊗ over) (hi ⊗ hi)) → T (lt zero64 hi) → T (lt hi greatest_bound) → Encloses zero64 hi (hypot_of binary64 d y)
  hypot_most hi hi-fits above positive small =
      let F = square_finite z (hi ⊗ hi) large above in
      let below : T (lt (zero64 ⊗ zero64) (z ⊗ under)) = lt_le_trans (zero64 ⊗ zero64) (least_square ⊗ under) (z ⊗ under) zero_below
      (mul_mono binary64 least_square z under under factors_finite.0 F factors_finite.1 factors_finite.1 factors_from_zero.0 factors_from_zero.1 (lt_le least_square z large) (le_refl under (finite_number under factors_finite.1))) in
      certified_encloses d y zero64 hi d-fits y-fits (of_bits-fits binary64 0) hi-fits (record { large = large; below = below; above = above; positive = positive; small = small })

-- ---- a point's distance
number_sum : (h s : Float) → T (finite h) → Number s → Number (h ⊕ s)
unfolding add is_nan
number_sum nan s F n = absurd F
number_sum (inf a) s F n = absurd F
number_sum (fin a m e) nan F n = absurd n
number_sum (fin a m e) (inf b) F n = tt
number_sum (fin a m e) (fin b k d) F n = add_number binary64 (fin a m e) (fin b k d) tt tt

pub edge_least : (sx y s x lo d : Float) → T (le lo (hypot_of binary64 (x ⊖ sx) y)) → T (le d (lo ⊕ s)) → UpTo d (edge_of (Point sx y s) x)
unfolding edge_of
edge_least sx y s x lo d l h n m =
    let H = hypot_of binary64 (x ⊖ sx) y in
    le_trans d (lo ⊕ s) (H ⊕ s) h (floor_sum lo H s (hypot_from_zero (x ⊖ sx) y) (λ a b. l) (le_number_r d (lo ⊕ s) h) m)

pub edge_most : (sx y s x hi d : Float) → Encloses zero64 hi (hypot_of binary64 (x ⊖ sx) y) → T (le (hi ⊕ s) d) → T (le (edge_of (Point sx y s) x) d)
unfolding edge_of
edge_most sx y s x hi d e h =
    let H = hypot_of binary64 (x ⊖ sx) y in
    let n = le_number_l (hi ⊕ s) d h in
    let F = finite_between zero64 H hi zero_finite e.hi_finite e.from e.upto in
    le_trans (H ⊕ s) (hi ⊕ s) d (floor_sum H hi s (λ k. le_trans zero64 H hi e.from e.upto) (λ k l. e.upto) (number_sum H s F (sum_number_r hi s n)) n) h

-- ---- its least distance, from either end where the foot lies beyond it
neither : (a b : Bool) → T (not b) → (a && b) ≡ false
neither true true n = absurd n
neither true false n = refl
neither false b n = refl

module _ (x y s b0 b1 d : Float) where
  abbrev at : Float → Float
  at b = edge_of (Point x y s) b

  pub lowest_first : T (lt x b0) → T (le (at b0) d) → T (le (lowest_of (Point x y s) b0 b1) d)
  unfolding lowest_of
  lowest_first h k =
      rw (is_false (le b0 x) (not_T (le b0 x) (λ g. lt_not_le x b0 h g))) (le_trans (min_of (at b0) (at b1)) (at b0) d (min_le_l (at b0) (at b1) (le_number_l (at b0) d k)) k)

  pub lowest_last : T (lt b1 x) → T (le (at b1) d) → T (le (lowest_of (Point x y s) b0 b1) d)
  unfolding lowest_of
  lowest_last h k =
      rw (neither (le b0 x) (le x b1) (not_T (le x b1) (λ g. lt_not_le b1 x h g))) (le_trans (min_of (at b0) (at b1)) (at b1) d (min_le_r (at b0) (at b1) (le_number_l (at b1) d k)) k)

-- ---- the way along the edge
pub way_along : (a : Float) → T (fits binary64 a) → UpTo (abs_of a) (hypot_of binary64 a zero64)
unfolding longer_leg
way_along a f n m = le_trans (abs_of a) (longer_leg a zero64) (hypot_of binary64 a zero64) (max_ge_l (abs_of a) (abs_of zero64) n) (leg_below a zero64 f (of_bits-fits binary64 0) m)
