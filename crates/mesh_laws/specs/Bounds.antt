-- Bounds on the vectors and lengths of a mesh. Definitions only.
use Rattle.std.specs.Prelude.{T, Float}
use Rattle.std.specs.Float.{binary64}
use Rattle.std.specs.Float.Ieee.{of_bits, lt, le, fits}
use Rattle.std.specs.Float.Ieee.Scale.{finite}
use Rattle.float64.specs.Scalar.{zero64}
use Rattle.float_bounds.specs.Within.{Within}
use Rattle.vec3.specs.declared.Vec3.{Vec3}
use Rattle.job_checks.specs.Refusals.{min_length, max_coordinate}

-- every component is of magnitude at most c
pub record VecWithin (c : Float) (u : Vec3) : Type 0 where
  pub x_within : Within c u.x
  pub y_within : Within c u.y
  pub z_within : Within c u.z

pub record FiniteVec (u : Vec3) : Type 0 where
  pub x_finite : T (finite u.x)
  pub y_finite : T (finite u.y)
  pub z_finite : T (finite u.z)

-- a point whose coordinates are in range, as those of vertices and pieces are
abbrev pub PointInRange : Vec3 → Type 0
PointInRange p = VecWithin max_coordinate p

-- 3,464,102.0: the root of 12,000,000,000,000 is the diagonal of a cube of 2,000,000, and rounded it is below
abbrev pub max_length : Float
max_length = of_bits binary64 0x414a_6dd3_0000_0000

-- the length of an edge
pub record EdgeLength (l : Float) : Type 0 where
  pub number : T (finite l)
  pub double : T (fits binary64 l)
  pub positive : T (lt zero64 l)
  pub at_least : T (le min_length l)
  pub at_most : T (le l max_length)
