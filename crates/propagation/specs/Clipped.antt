-- The ends of what a window passes on, whatever its images are. Definitions only.
use Rattle.std.specs.Prelude.{T, Float, Option, Some, None}
use Rattle.std.specs.Float.{binary64}
use Rattle.std.specs.Float.Ieee.{fits}
use Rattle.float64.specs.Scalar.{zero64, min_of, max_of}
use Rattle.source.specs.declared.Src.{Src}
use Rattle.source_windows.specs.declared.CandidateWindow.{CandidateWindow}

-- nothing, or a range that is cut off at 0 and at ln: the Rust's `lo.max(0.)` and `hi.min(ln)`, for two doubles
pub data ClippedTo (ln : Float) : Option CandidateWindow → Type 0 where
  none_passed : ClippedTo ln None
  passed : (lo hi : Float) (src : Src) → T (fits binary64 lo) → T (fits binary64 hi) → ClippedTo ln (Some (record { b0 = max_of lo zero64; b1 = min_of hi ln; src = src }))
