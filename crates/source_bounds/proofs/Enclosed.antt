-- Two doubles that pass the test on squares are below and above the hypotenuse. Assumes nothing.
-- All that is computed is finite: the square of hi is, since hi is below 1e100, and all else is below it. So each is a number of units, near the exact one (`square_near`, `sum_near`,
-- `product_near`), and the exact squares are in the order of the computed ones (`at_least`, `at_most`).
use Prim.Native.Nat.{ℕ, ◌+◌, ◌*◌, ◌^◌, ◌≤◌, ◌<◌}
use mathlib.Core.Bool.{Bool, true, false}
use mathlib.Core.Path.{refl, sym, subst}
use native.Mathlib.Nat as nat
use native.Mathlib.Nat.{mul_assoc}
use lib.Dec.{T, lit≤}
use lib.Pow.{pow_pos}
use lib.Ieee.{Float, binary64, low, mul, le, fits, of_bits}
use lib.Ieee.Exact.{HasValue}
use lib.Ieee.Scale.{finite}
use Rattle.root_spec.specs.Root.{hypot_of}
use Rattle.float64.specs.Scalar.{zero64}
use Rattle.float64.specs.Notation.{◌⊕◌, ◌⊗◌}
use Rattle.float_laws.proofs.Order.{finite_number, zero_finite, le_refl, le_trans, lt_le, finite_between}
use Rattle.float_laws.proofs.Product.{mul_mono, mul_nonneg}
use Rattle.float_laws.proofs.Roots.{hypot_nonneg}
use Rattle.float_bounds.proofs.Magnitude.{square_from_zero}
use Rattle.float_bounds.proofs.RoundingError.{NearFraction, near_cancel, ComputedNear, product_near, sum_near}
use Rattle.source_bounds.specs.Bounds.{greatest_bound, Encloses, under, over, least_square, Certified}
use Rattle.source_bounds.proofs.Parts.{P}
use Rattle.source_bounds.proofs.Squares.{M, less, more, at_least, at_most}
use Rattle.source_bounds.proofs.Hypot.{hypot_upto, hypot_from}
use Rattle.source_bounds.proofs.Values.{S, Sized, sized, plus_sign, minus_le, le_sizes, square_near, factor_finite, addends_finite, root_finite, square_finite, square_above_zero}

-- ---- the constants: S is M * H
abbrev H : ℕ
H = 2 ^ 1033

under_value : HasValue under false (less * H) S
unfolding of_bits
under_value = (refl, refl)

over_value : HasValue over false (more * H) S
unfolding of_bits
over_value = (refl, refl)

abbrev least : ℕ
least = 0x1_bff2_ee48_e053 * 2 ^ 693

least_value : HasValue least_square false least S
unfolding of_bits
least_value = (refl, refl)

least_large : 4 * P + 2 ≤ least
least_large = lit≤ tt

greatest_finite : T (finite greatest_bound)
unfolding of_bits
greatest_finite = tt

greatest_squared : T (finite (greatest_bound ⊗ greatest_bound))
unfolding mul of_bits
greatest_squared = tt

factors_finite : T (finite under) × T (finite over)
unfolding of_bits
factors_finite = (tt, tt)

factors_from_zero : T (le zero64 under) × T (le zero64 over)
unfolding le of_bits
factors_from_zero = (tt, tt)

factors_rise : T (le under over)
unfolding le of_bits
factors_rise = tt

-- a multiple of z by k / M, the factor being k * H units
scaled_near : (Z k g : ℕ) → NearFraction P (Z * (k * H)) S g → NearFraction P (Z * k) M g
scaled_near Z k g h = near_cancel P (Z * k) M g H (pow_pos 1033) (subst (λ (n : ℕ). NearFraction P n S g) (sym (mul_assoc Z k H)) h)

module _ (d y lo hi : Float) (d-fits : T (fits binary64 d)) (y-fits : T (fits binary64 y)) (lo-fits : T (fits binary64 lo)) (hi-fits : T (fits binary64 hi)) (h : Certified (d ⊗ d ⊕ y ⊗ y) lo hi) where
  abbrev z : Float
  z = d ⊗ d ⊕ y ⊗ y

  abbrev hypot : Float
  hypot = hypot_of binary64 d y

  -- ---- all is finite
  hi_from : T (le zero64 hi)
  hi_from = lt_le zero64 hi h.positive

  hi_finite : T (finite hi)
  hi_finite = finite_between zero64 hi greatest_bound zero_finite greatest_finite hi_from (lt_le hi greatest_bound h.small)

  hi_square : T (finite (hi ⊗ hi))
  hi_square =
      let g = greatest_bound in
      let l = lt_le hi g h.small in
      finite_between zero64 (hi ⊗ hi) (g ⊗ g) zero_finite greatest_squared (square_from_zero binary64 hi hi_finite)
      (mul_mono binary64 hi g hi g hi_finite greatest_finite hi_finite greatest_finite hi_from hi_from l l)

  z_finite : T (finite z)
  z_finite = square_finite z (hi ⊗ hi) h.large h.above

  z_from : T (le zero64 z)
  z_from = square_above_zero z h.large

  over_finite : T (finite (z ⊗ over))
  over_finite =
      finite_between zero64 (z ⊗ over) (hi ⊗ hi) zero_finite hi_square (mul_nonneg binary64 z over z_finite factors_finite.1 z_from factors_from_zero.1) (lt_le (z ⊗ over) (hi ⊗ hi) h.above)

  under_finite : T (finite (z ⊗ under))
  under_finite =
      finite_between zero64 (z ⊗ under) (z ⊗ over) zero_finite over_finite (mul_nonneg binary64 z under z_finite factors_finite.0 z_from factors_from_zero.0)
      (mul_mono binary64 z z under over z_finite z_finite factors_finite.0 factors_finite.1 z_from factors_from_zero.0 (le_refl z (finite_number z z_finite)) factors_rise)

  squares_finite : T (finite (d ⊗ d)) × T (finite (y ⊗ y))
  squares_finite = addends_finite (d ⊗ d) (y ⊗ y) z_finite

  d_finite : T (finite d)
  d_finite = factor_finite d d squares_finite.0

  y_finite : T (finite y)
  y_finite = factor_finite y y squares_finite.1

  lo_finite : T (finite lo)
  lo_finite = root_finite lo (z ⊗ under) h.below

  lo_square : T (finite (lo ⊗ lo))
  lo_square = finite_between zero64 (lo ⊗ lo) (z ⊗ under) zero_finite under_finite (square_from_zero binary64 lo lo_finite) (lt_le (lo ⊗ lo) (z ⊗ under) h.below)

  -- ---- in units
  S_pos : 0 < S
  S_pos = pow_pos (low binary64)

  D : Sized d
  D = sized d d_finite d-fits

  Y : Sized y
  Y = sized y y_finite y-fits

  L : Sized lo
  L = sized lo lo_finite lo-fits

  U : Sized hi
  U = sized hi hi_finite hi-fits

  A : ComputedNear binary64 (d ⊗ d) false (D.size * D.size) S
  A = square_near d D squares_finite.0

  B : ComputedNear binary64 (y ⊗ y) false (Y.size * Y.size) S
  B = square_near y Y squares_finite.1

  Z : ComputedNear binary64 z false (A.units + B.units) 1
  Z = sum_near binary64 false (d ⊗ d) (y ⊗ y) A.units B.units A.value B.value z_finite

  large : 4 * P + 2 ≤ Z.units
  large = nat.le_trans least_large (le_sizes least_square z least Z.units S S_pos least_value Z.value (lt_le least_square z h.large))

  lo_squared : ComputedNear binary64 (lo ⊗ lo) false (L.size * L.size) S
  lo_squared = square_near lo L lo_square

  hi_squared : ComputedNear binary64 (hi ⊗ hi) false (U.size * U.size) S
  hi_squared = square_near hi U hi_square

  Q : ComputedNear binary64 (z ⊗ under) false (Z.units * (less * H)) S
  Q = product_near binary64 false false z under Z.units (less * H) Z.value under_value under_finite

  R : ComputedNear binary64 (z ⊗ over) false (Z.units * (more * H)) S
  R = product_near binary64 false false z over Z.units (more * H) Z.value over_value over_finite

  -- ---- the exact squares
  least_square_lem : L.size * L.size ≤ D.size * D.size + Y.size * Y.size
  least_square_lem =
      at_least S D.size Y.size A.units B.units Z.units A.near B.near Z.near large L.size lo_squared.units Q.units lo_squared.near
      (scaled_near Z.units less Q.units Q.near)
      (le_sizes (lo ⊗ lo) (z ⊗ under) lo_squared.units Q.units S S_pos lo_squared.value Q.value (lt_le (lo ⊗ lo) (z ⊗ under) h.below))

  greatest_square : D.size * D.size + Y.size * Y.size ≤ U.size * U.size
  greatest_square =
      at_most S D.size Y.size A.units B.units Z.units A.near B.near Z.near large U.size hi_squared.units R.units hi_squared.near
      (scaled_near Z.units more R.units R.near)
      (le_sizes (z ⊗ over) (hi ⊗ hi) R.units hi_squared.units S S_pos R.value hi_squared.value (lt_le (z ⊗ over) (hi ⊗ hi) h.above))

  -- ---- the root
  hi_value : HasValue hi false U.size S
  hi_value = subst (λ (s : Bool). HasValue hi s U.size S) (plus_sign hi U.sign U.size S h.positive U.value) U.value

  upto : T (le hypot hi)
  upto = hypot_upto binary64 d y D.sign Y.sign D.size Y.size D.value Y.value hi U.size (hi-fits, hi_value) greatest_square

  from_either : (s : Bool) → HasValue lo s L.size S → T (le lo hypot)
  from_either false v = hypot_from binary64 d y D.sign Y.sign D.size Y.size D.value Y.value hi U.size (hi-fits, hi_value) greatest_square lo L.size (lo-fits, v) least_square_lem
  from_either true v = le_trans lo zero64 hypot (minus_le lo L.size S v) (hypot_nonneg binary64 d y (finite_number d d_finite) (finite_number y y_finite))

  pub certified_encloses : Encloses lo hi hypot
  certified_encloses = record { lo_finite = lo_finite; hi_finite = hi_finite; from = from_either L.sign L.value; upto = upto }
