-- An edge between two points in range, its frame and the altitude over it: how large each number gets, step by step as the Rust computes them. Assumes nothing.
--     number_in_range, vertex_in_range (what check 4 says); length_of, unit_of_lem, altitude_finite, normal_of_lem; along_within, across_within (coordinates in a frame); unit_finite, normal_finite, along_finite, across_finite
use Prim.Native.Nat.{ℕ, ◌+◌, ◌*◌, ◌<◌}
use mathlib.Core.Bool.{false, and-eq-true_iff}
use mathlib.Core.List.{List}
use mathlib.Core.Path.{◌≡◌}
use native.Mathlib.Omega.{arith}
use borrow.Author.Tests.{not-false}
use lib.Dec.{T}
use lib.ListN.{length, get_or}
use lib.Ieee.{Float, nan, binary64, of_bits, neg, add, mul, div, lt, le, fits}
use lib.Ieee.Bits.{of_bits-fits}
use lib.Ieee.Scale.{finite}
use Rattle.nat_laws.proofs.Tests.{holds}
use Rattle.layout.specs.Layout.{coordinates_per_vertex}
use Rattle.root_spec.specs.Root.{sqrt_of}
use Rattle.float64.specs.Scalar.{zero64, one}
use Rattle.float64.specs.Notation.{◌⊕◌, ◌⊗◌, ◌⊘◌}
use Rattle.float_laws.proofs.Order.{le_trans, lt_le_trans, finite_between, zero_finite}
use Rattle.float_bounds.specs.Within.{Within}
use Rattle.float_bounds.proofs.Magnitude.{within_of, within_finite, within_wider, within_neg, within_from_zero, sqrt_fits}
use Rattle.float_bounds.proofs.Reciprocal.{reciprocal_from_zero, reciprocal_upto}
use Rattle.vec3.specs.declared.Vec3.{Vec3}
use Rattle.vec3.specs.Vec.{scale_of, axpy_of, sub_of, dot_of, norm_of}
use Rattle.job_checks.specs.Edge.{vertex_at, len_of, xhat_of, perpendicular_from, perpendicular_of, altitude_of}
use Rattle.job_checks.specs.Refusals.{max_coordinate, min_length, min_altitude, out_of_range}
use Rattle.topology.specs.Checked.{VerticesInRange}
use Rattle.mesh_laws.specs.Bounds.{VecWithin, FiniteVec, PointInRange, max_length, EdgeLength}
use Rattle.mesh_laws.proofs.Vectors.{vec_wider, vec_finite, sub_within, scale_within, axpy_within, dot_within, square_fits, norm_from, norm_upto}

-- ---- the bounds: 2e6 and 12e12 for a difference of points and its square, 1e3 and 2e9 for one over a length and a unit vector, 1.2e16, 1e26, 1e53 and 1e27 for
-- what leads to the altitude, 1e6 and 2e32 for one over it and a normal, 1e40 for a coordinate
abbrev difference : Float
difference = of_bits binary64 0x413e_8480_0000_0000

abbrev square : Float
square = of_bits binary64 0x42a5_d3ef_7980_0000

abbrev per_length : Float
per_length = of_bits binary64 0x408f_4000_0000_0000

abbrev unit : Float
unit = of_bits binary64 0x41dd_cd65_0000_0000

abbrev product : Float
product = of_bits binary64 0x4345_50f7_dca7_0000

abbrev across : Float
across = of_bits binary64 0x4554_adf4_b732_0335

abbrev across_square : Float
across_square = of_bits binary64 0x4af0_b46c_6cdd_6e3e

abbrev altitude : Float
altitude = of_bits binary64 0x4589_d971_e4fe_8402

abbrev per_altitude : Float
per_altitude = of_bits binary64 0x412e_8480_0000_0000

abbrev pub normal : Float
normal = of_bits binary64 0x46a3_b8b5_b505_6e17

abbrev coordinate : Float
coordinate = of_bits binary64 0x483d_6329_f1c3_5ca5

-- what they are to each other
difference_is : T (finite max_coordinate) × T (finite difference) × T (le (max_coordinate ⊕ max_coordinate) difference)
unfolding of_bits add le
difference_is = (tt, tt, tt)

square_is : T (finite (difference ⊗ difference)) × T (finite (difference ⊗ difference ⊕ difference ⊗ difference)) × T (le (difference ⊗ difference ⊕ difference ⊗ difference ⊕ difference ⊗ difference) square)
unfolding of_bits add mul le
square_is = (tt, tt, tt)

length_is : T (le (sqrt_of binary64 square) max_length) × T (finite max_length) × T (lt zero64 min_length) × T (finite min_length)
unfolding sqrt_of of_bits le lt
length_is = (tt, tt, tt, tt)

unit_is : T (le (one ⊘ min_length) per_length) × T (finite per_length) × T (le (difference ⊗ per_length) unit) × T (finite unit)
unfolding of_bits div mul le
unit_is = (tt, tt, tt, tt)

product_is : T (finite (difference ⊗ unit)) × T (finite (difference ⊗ unit ⊕ difference ⊗ unit)) × T (le (difference ⊗ unit ⊕ difference ⊗ unit ⊕ difference ⊗ unit) product) × T (finite product)
unfolding of_bits add mul le
product_is = (tt, tt, tt, tt)

across_is : T (finite (product ⊗ unit)) × T (le (difference ⊕ product ⊗ unit) across) × T (finite across)
unfolding of_bits add mul le
across_is = (tt, tt, tt)

altitude_is : T (finite (across ⊗ across)) × T (finite (across ⊗ across ⊕ across ⊗ across)) × T (le (across ⊗ across ⊕ across ⊗ across ⊕ across ⊗ across) across_square) × T (le (sqrt_of binary64 across_square) altitude) × T (finite altitude) × T (lt zero64 min_altitude) × T (finite min_altitude)
unfolding sqrt_of of_bits add mul le lt
altitude_is = (tt, tt, tt, tt, tt, tt, tt)

normal_is : T (le (one ⊘ min_altitude) per_altitude) × T (finite per_altitude) × T (le (across ⊗ per_altitude) normal) × T (finite normal)
unfolding of_bits div mul le
normal_is = (tt, tt, tt, tt)

coordinate_is : T (finite (difference ⊗ normal)) × T (finite (difference ⊗ normal ⊕ difference ⊗ normal)) × T (le (difference ⊗ normal ⊕ difference ⊗ normal ⊕ difference ⊗ normal) coordinate) × T (finite coordinate)
unfolding of_bits add mul le
coordinate_is = (tt, tt, tt, tt)

-- ---- points in range
pub number_in_range : (x : Float) → out_of_range x ≡ false → Within max_coordinate x
unfolding out_of_range
number_in_range x e =
    let both = (and-eq-true_iff (le (neg max_coordinate) x) (le x max_coordinate)).0 (not-false _ e) in
    within_of max_coordinate x (holds (le (neg max_coordinate) x) both.0) (holds (le x max_coordinate) both.1)

pub vertex_in_range : (v : List Float) (k : ℕ) → VerticesInRange v → coordinates_per_vertex * k + 2 < length v → PointInRange (vertex_at v k)
vertex_in_range v k r l =
    record {
      x_within = number_in_range (get_or v (coordinates_per_vertex * k) nan) (r.in_range (coordinates_per_vertex * k) (omega arith));
      y_within = number_in_range (get_or v (coordinates_per_vertex * k + 1) nan) (r.in_range (coordinates_per_vertex * k + 1) (omega arith));
      z_within = number_in_range (get_or v (coordinates_per_vertex * k + 2) nan) (r.in_range (coordinates_per_vertex * k + 2) l);
    }

difference_of : (p q : Vec3) → PointInRange p → PointInRange q → VecWithin difference (sub_of p q)
difference_of p q h k = vec_wider (max_coordinate ⊕ max_coordinate) difference (sub_of p q) difference_is.2 (sub_within max_coordinate max_coordinate p q difference_is.0 difference_is.0 h k)

-- one over a number that is at least a bound above zero
per : (a c x : Float) → T (finite a) → T (lt zero64 a) → T (le (one ⊘ a) c) → T (finite x) → T (le a x) → Within c (one ⊘ x)
per a c x F h k G l =
    within_from_zero c (one ⊘ x) (reciprocal_from_zero binary64 x G (lt_le_trans zero64 a x h l))
    (le_trans (one ⊘ x) (one ⊘ a) c (reciprocal_upto binary64 a x F G h l) k)

-- ---- the edge from o to b
module _ (o b : Vec3) (h : PointInRange o) (k : PointInRange b) where
  abbrev d : Vec3
  d = sub_of b o

  d_within : VecWithin difference d
  d_within = difference_of b o k h

  length_from : T (le zero64 (len_of o b))
  unfolding len_of
  length_from = norm_from difference d difference_is.1 square_is.0 square_is.1 d_within

  pub length_upto : T (le (len_of o b) max_length)
  unfolding len_of
  length_upto =
      le_trans (norm_of d) (sqrt_of binary64 square) max_length
      (norm_upto difference d difference_is.1 square_is.0 square_is.1 d_within square (of_bits-fits binary64 0x42a5_d3ef_7980_0000) square_is.2) length_is.0

  pub length_finite : T (finite (len_of o b))
  length_finite = finite_between zero64 (len_of o b) max_length zero_finite length_is.1 length_from length_upto

  length_fits : T (fits binary64 (len_of o b))
  unfolding len_of norm_of
  length_fits = sqrt_fits binary64 (dot_of d d) (square_fits difference d difference_is.1 square_is.0 square_is.1 d_within)

  module _ (long : T (le min_length (len_of o b))) where
    pub length_of : EdgeLength (len_of o b)
    length_of =
        record {
          number = length_finite;
          double = length_fits;
          positive = lt_le_trans zero64 min_length (len_of o b) length_is.2 long;
          at_least = long;
          at_most = length_upto;
        }

    pub unit_of_lem : VecWithin unit (xhat_of o b)
    unfolding xhat_of
    unit_of_lem =
        vec_wider (difference ⊗ per_length) unit (scale_of d (one ⊘ len_of o b)) unit_is.2
        (scale_within difference per_length d (one ⊘ len_of o b) difference_is.1 unit_is.1 d_within
        (per min_length per_length (len_of o b) length_is.3 length_is.2 unit_is.0 length_finite long))

    -- p along the edge
    pub along_within : (p : Vec3) → PointInRange p → Within product (dot_of (sub_of p o) (xhat_of o b))
    along_within p r =
        within_wider (difference ⊗ unit ⊕ difference ⊗ unit ⊕ difference ⊗ unit) (dot_of (sub_of p o) (xhat_of o b))
        (dot_within difference unit (sub_of p o) (xhat_of o b) difference_is.1 unit_is.3 product_is.0 product_is.1 (difference_of p o r h) unit_of_lem) product product_is.2

    -- ---- a third vertex over it
    module _ (t : Vec3) (r : PointInRange t) where
      perpendicular_within : VecWithin across (perpendicular_of o b t)
      unfolding perpendicular_of perpendicular_from
      perpendicular_within =
          let w = sub_of t o in
          let x = xhat_of o b in
          vec_wider (difference ⊕ product ⊗ unit) across (axpy_of w (neg (dot_of w x)) x) across_is.1
          (axpy_within difference product unit w (neg (dot_of w x)) x difference_is.1 product_is.3 unit_is.3 across_is.0 (difference_of t o r h) (within_neg product (dot_of w x) (along_within t r)) unit_of_lem)

      pub altitude_finite : T (finite (altitude_of o b t))
      unfolding altitude_of
      altitude_finite =
          let p = perpendicular_of o b t in
          finite_between zero64 (norm_of p) altitude zero_finite altitude_is.4
          (norm_from across p across_is.2 altitude_is.0 altitude_is.1 perpendicular_within)
          (le_trans (norm_of p) (sqrt_of binary64 across_square) altitude
          (norm_upto across p across_is.2 altitude_is.0 altitude_is.1 perpendicular_within across_square (of_bits-fits binary64 0x4af0_b46c_6cdd_6e3e) altitude_is.2) altitude_is.3)

      module _ (tall : T (le min_altitude (altitude_of o b t))) where
        pub normal_of_lem : VecWithin normal (scale_of (perpendicular_of o b t) (one ⊘ altitude_of o b t))
        normal_of_lem =
            vec_wider (across ⊗ per_altitude) normal (scale_of (perpendicular_of o b t) (one ⊘ altitude_of o b t)) normal_is.2
            (scale_within across per_altitude (perpendicular_of o b t) (one ⊘ altitude_of o b t) across_is.2 normal_is.1 perpendicular_within
            (per min_altitude per_altitude (altitude_of o b t) altitude_is.6 altitude_is.5 normal_is.0 altitude_finite tall))

-- p across an edge from o, along a normal
pub across_within : (o p y : Vec3) → PointInRange o → PointInRange p → VecWithin normal y → Within coordinate (dot_of (sub_of p o) y)
across_within o p y h k n =
    within_wider (difference ⊗ normal ⊕ difference ⊗ normal ⊕ difference ⊗ normal) (dot_of (sub_of p o) y)
    (dot_within difference normal (sub_of p o) y difference_is.1 normal_is.3 coordinate_is.0 coordinate_is.1 (difference_of p o k h) n) coordinate coordinate_is.2

-- what is within these bounds is finite
pub unit_finite : (u : Vec3) → VecWithin unit u → FiniteVec u
unit_finite u h = vec_finite unit u unit_is.3 h

pub normal_finite : (u : Vec3) → VecWithin normal u → FiniteVec u
normal_finite u h = vec_finite normal u normal_is.3 h

pub along_finite : (x : Float) → Within product x → T (finite x)
along_finite x h = within_finite product x h product_is.3

pub across_finite : (x : Float) → Within coordinate x → T (finite x)
across_finite x h = within_finite coordinate x h coordinate_is.3
