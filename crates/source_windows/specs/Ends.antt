-- Where the ends of a candidate range lie on its edge, whatever they were computed from. Definitions only.
use Rattle.std.specs.Prelude.{Float, Option, Some, None}
use Rattle.float_bounds.specs.Within.{Start, ClippedEnd}
use Rattle.source_windows.specs.declared.CandidateWindow.{CandidateWindow}

-- A candidate window, if there is one, starts from 0 on and ends up to l; either may still be infinite, and the start above the end.
-- Where it is wider than nothing it lies on the edge (`wide_inside` of float_bounds).
pub data EndsOn (l : Float) : Option CandidateWindow → Type 0 where
  no_window_lem : EndsOn l None
  window : {c : CandidateWindow} → Start c.b0 → ClippedEnd l c.b1 → EndsOn l (Some c)
