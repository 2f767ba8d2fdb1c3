-- The Rust's `source_segment` on values: the wave that leaves a segment over an edge of its face, on one of its two sides. Definitions only.
use Rattle.std.specs.Prelude.{◌&&◌, not, Float, if◌then◌else◌, Option, Some, None}
use Rattle.std.specs.Float.{binary64}
use Rattle.std.specs.Float.Ieee.{neg, lt, le}
use Rattle.root_spec.specs.Root.{sqrt_of}
use Rattle.float64.specs.Scalar.{zero64, min_of, max_of, abs_of}
use Rattle.float64.specs.Notation.{◌⊕◌, ◌⊖◌, ◌⊗◌, ◌⊘◌}
use Rattle.source.specs.declared.Src.TheVariants.{Line}
use Rattle.source_windows.specs.Tolerance.{narrowest, upright, too_narrow}
use Rattle.source_windows.specs.Wedge.{whole_of}
use Rattle.source_windows.specs.declared.Bounds.{Bounds}
use Rattle.source_windows.specs.declared.CandidateWindow.{CandidateWindow}
use Rattle.source_windows.specs.declared.EdgeSegment.{EdgeSegment}
use Rattle.source_windows.specs.declared.Normal.{Normal}
use Rattle.source_windows.specs.declared.Normal.TheVariants.{Left, Right}

-- a segment by the `coords` of its ends, in the window's frame: y positive away from the face
unfoldable pub in_frame_of : Float → Float → Float → Float → Float → Option EdgeSegment
in_frame_of ax ay bx by l =
    let ay = neg (max_of ay zero64) in
    let by = neg (max_of by zero64) in
    let dx = bx ⊖ ax in
    let dy = by ⊖ ay in
    let ll = dx ⊗ dx ⊕ dy ⊗ dy in
    if le ll ((narrowest ⊗ l) ⊗ (narrowest ⊗ l)) then None else
    Some (record { ax = ax; ay = ay; dx = dx; dy = dy; ll = ll; sl = sqrt_of binary64 ll })

-- the unit normal of a side, (nx, ny)
unfoldable pub nx_of : EdgeSegment → Normal → Float
nx_of g Left = neg g.dy ⊘ g.sl
nx_of g Right = g.dy ⊘ g.sl

unfoldable pub ny_of : EdgeSegment → Normal → Float
ny_of g Left = g.dx ⊘ g.sl
ny_of g Right = neg g.dx ⊘ g.sl

-- the points (x, 0) of the edge whose foot lies on the segment: the foot's parameter is linear in x
unfoldable pub feet_of : EdgeSegment → Float → Option Bounds
feet_of g l =
    let base = neg g.ax ⊗ g.dx ⊖ g.ay ⊗ g.dy in
    if lt (upright ⊗ g.sl) (abs_of g.dx) then
    (let x0 = neg base ⊘ g.dx in
    let x1 = (g.ll ⊖ base) ⊘ g.dx in
    Some (record { b0 = max_of zero64 (min_of x0 x1); b1 = min_of l (max_of x0 x1) })) else
    if not (le zero64 base && le base g.ll) then None else
    Some (whole_of l)

-- of them those on the side of the segment's line that the normal points to
unfoldable pub ahead_of : Bounds → EdgeSegment → Float → Float → Bounds
ahead_of w g nx ny =
    if lt zero64 nx then record { b0 = max_of w.b0 (g.ax ⊕ g.ay ⊗ ny ⊘ nx); b1 = w.b1 } else
    if lt nx zero64 then record { b0 = w.b0; b1 = min_of w.b1 (g.ax ⊕ g.ay ⊗ ny ⊘ nx) } else
    w

-- the window of one side: none where its wave does not leave over the edge, no foot lies on the segment or the range is too narrow
unfoldable pub wave_of : Option Bounds → EdgeSegment → Float → Float → Float → Option CandidateWindow
wave_of None g nx ny l = None
wave_of (Some w) g nx ny l =
    if too_narrow (ahead_of w g nx ny) l then None else
    Some (record { b0 = (ahead_of w g nx ny).b0; b1 = (ahead_of w g nx ny).b1; src = Line nx ny (neg (g.ax ⊗ nx ⊕ g.ay ⊗ ny)) })

unfoldable pub side_window_of : EdgeSegment → Float → Normal → Option CandidateWindow
side_window_of g l n = if le (ny_of g n) narrowest then None else wave_of (feet_of g l) g (nx_of g n) (ny_of g n) l

unfoldable pub segment_window_of : Option EdgeSegment → Float → Normal → Option CandidateWindow
segment_window_of None l n = None
segment_window_of (Some g) l n = side_window_of g l n
