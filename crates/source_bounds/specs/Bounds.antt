-- Bounds of the distance that a source gives at a point of its edge, found without a root. Definitions only.
use Rattle.std.specs.Prelude.{T, Float}
use Rattle.std.specs.Float.{binary64}
use Rattle.std.specs.Float.Ieee.{of_bits, neg, lt, le}
use Rattle.std.specs.Float.Ieee.Scale.{finite}
use Rattle.float64.specs.Scalar.{zero64, one}
use Rattle.float64.specs.Notation.{◌⊗◌}

-- -1 and 1e100: bounds are told of distances between them, so that what is computed from bounds is finite and grows with them
abbrev pub least_bound : Float
least_bound = neg one

abbrev pub greatest_bound : Float
greatest_bound = of_bits binary64 0x54b2_49ad_2594_c37d

-- v is a number from lo to hi, and those are from -1 to 1e100
pub record Bounded (lo hi v : Float) : Type 0 where
  pub least : T (le least_bound lo)
  pub from : T (le lo v)
  pub upto : T (le v hi)
  pub greatest : T (le hi greatest_bound)

-- the same of finite lo and hi
pub record Encloses (lo hi v : Float) : Type 0 where
  pub lo_finite : T (finite lo)
  pub hi_finite : T (finite hi)
  pub from : T (le lo v)
  pub upto : T (le v hi)

-- 1 - 2^-41, 1 + 2^-41, and 1e-100
abbrev pub under : Float
under = of_bits binary64 0x3fef_ffff_ffff_f000

abbrev pub over : Float
over = of_bits binary64 0x3ff0_0000_0000_0800

abbrev pub least_square : Float
least_square = of_bits binary64 0x2b2b_ff2e_e48e_0530

-- lo and hi beside a computed sum of squares z: with a margin the square of lo is below z and that of hi above it
pub record Certified (z lo hi : Float) : Type 0 where
  pub large : T (lt least_square z)
  pub below : T (lt (lo ⊗ lo) (z ⊗ under))
  pub above : T (lt (z ⊗ over) (hi ⊗ hi))
  pub positive : T (lt zero64 hi)
  pub small : T (lt hi greatest_bound)
