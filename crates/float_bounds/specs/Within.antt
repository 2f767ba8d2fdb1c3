-- Bounds on a double. Definitions only.
use Rattle.std.specs.Prelude.{T, Float}
use Rattle.std.specs.Float.{binary64}
use Rattle.std.specs.Float.Ieee.{le, lt, fits}
use Rattle.std.specs.Float.Ieee.Scale.{finite}
use Rattle.float64.specs.Scalar.{zero64, abs_of}

-- x is a number of magnitude at most c
abbrev pub Within : Float → Float → Type 0
Within c x = T (le (abs_of x) c)

-- a start of a window on an edge, and an end of one on an edge of length l: doubles from 0 on and up to l, an infinity among them
pub record Start (b : Float) : Type 0 where
  pub from : T (le zero64 b)
  pub double : T (fits binary64 b)

pub record ClippedEnd (l b : Float) : Type 0 where
  pub upto : T (le b l)
  pub double : T (fits binary64 b)

-- finite numbers from 0 to l, the start below the end
pub record Inside (l b0 b1 : Float) : Type 0 where
  pub start_finite : T (finite b0)
  pub end_finite : T (finite b1)
  pub from : T (le zero64 b0)
  pub rises : T (lt b0 b1)
  pub upto : T (le b1 l)
