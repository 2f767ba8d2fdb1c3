-- The Rust's `propagate` on values: what a window passes on to one of the two edges ahead. Definitions only.
use Rattle.std.specs.Prelude.{true, false, Float, if◌then◌else◌, Option, Some, None}
use Rattle.std.specs.Float.{inf}
use Rattle.std.specs.Float.Ieee.{neg, lt, le}
use Rattle.float64.specs.Scalar.{zero64, min_of, max_of}
use Rattle.float64.specs.Notation.{◌⊕◌, ◌⊖◌, ◌⊗◌, ◌⊘◌}
use Rattle.source.specs.declared.Src.{Src}
use Rattle.source.specs.declared.Src.TheVariants.{Point, Line}
use Rattle.source_windows.specs.Wedge.{point_source_of}
use Rattle.source_windows.specs.Tolerance.{narrowest, too_narrow}
use Rattle.source_windows.specs.declared.Bounds.{Bounds}
use Rattle.source_windows.specs.declared.CandidateWindow.{CandidateWindow}
use Rattle.propagation.specs.Plane.{frame_of, turn_to, map_to}
use Rattle.propagation.specs.declared.Vec2.{Vec2}
use Rattle.propagation.specs.declared.FaceAhead.{FaceAhead}
use Rattle.propagation.specs.declared.Side.{Side}
use Rattle.propagation.specs.declared.Side.TheVariants.{First, Second}
use Rattle.propagation.specs.declared.Frame.{Frame}
use Rattle.propagation.specs.declared.NextEdge.{NextEdge}

-- the ray of the source through the opposite vertex: where it crosses the window's edge, or that the window goes no further
unfoldable pub ray_of : Src → FaceAhead → Option Float
ray_of (Point sx sy s) g =
    if lt (neg narrowest ⊗ g.l) sy then None else
    Some (sx ⊕ (g.cx ⊖ sx) ⊗ neg sy ⊘ (g.cy ⊖ sy))
ray_of (Line ux uy c) g =
    if lt uy narrowest then None else
    Some (g.cx ⊖ ux ⊗ g.cy ⊘ uy)

unfoldable pub xc_of : Src → FaceAhead → Option Float
xc_of src g = if le g.cy zero64 then None else ray_of src g

-- the part of the window on a side of that ray, r0 to r1
unfoldable pub part_of : Side → Bounds → Float → Bounds
part_of First w xc = record { b0 = w.b0; b1 = min_of w.b1 xc }
part_of Second w xc = record { b0 = max_of w.b0 xc; b1 = w.b1 }

-- where the ray from the point sn over x of the window's edge meets the next edge, and a line's ray of direction un
unfoldable pub image_of_point : Frame → Vec2 → Float → Float
image_of_point f sn x =
    let xn = map_to f (record { x = x; y = zero64 }) in
    let k = xn.y ⊖ sn.y in
    if le k zero64 then (if le sn.x xn.x then inf false else inf true) else
    sn.x ⊕ (xn.x ⊖ sn.x) ⊗ neg sn.y ⊘ k

unfoldable pub image_of_line : Frame → Vec2 → Float → Float
image_of_line f un x =
    let xn = map_to f (record { x = x; y = zero64 }) in
    if le un.y zero64 then (if le zero64 un.x then inf false else inf true) else
    xn.x ⊕ un.x ⊗ neg xn.y ⊘ un.y

-- the two images in order, cut off at the next edge's ends
unfoldable pub clipped_of : Float → Float → Float → Src → Option CandidateWindow
clipped_of i0 i1 ln src = Some (record { b0 = max_of (min_of i0 i1) zero64; b1 = min_of (max_of i0 i1) ln; src = src })

unfoldable pub images_of : Src → Frame → Bounds → Float → Option CandidateWindow
images_of (Point sx sy s) f r ln =
    let sn = map_to f (record { x = sx; y = sy }) in
    clipped_of (image_of_point f sn r.b0) (image_of_point f sn r.b1) ln (Point sn.x (min_of sn.y zero64) s)
images_of (Line ux uy c) f r ln =
    let un = turn_to f (record { x = ux; y = uy }) in
    clipped_of (image_of_line f un r.b0) (image_of_line f un r.b1) ln (Line un.x (max_of un.y zero64) (c ⊕ ux ⊗ f.o.x ⊕ uy ⊗ f.o.y))

-- what a side gets of the window, once the ray is known
unfoldable pub side_of : Src → Bounds → FaceAhead → Float → Side → NextEdge → Option CandidateWindow
side_of src w g xc side ne =
    let r = part_of side w xc in
    if too_narrow r g.l then None else
    images_of src (frame_of g side ne) r ne.ln

unfoldable pub after_ray : Option Float → Src → Bounds → FaceAhead → Side → NextEdge → Option CandidateWindow
after_ray None src w g side ne = None
after_ray (Some xc) src w g side ne = side_of src w g xc side ne

unfoldable pub propagate_of : Src → Bounds → FaceAhead → Side → NextEdge → Option CandidateWindow
propagate_of src w g side ne = after_ray (xc_of src g) src w g side ne

-- the Rust's `emit` on an edge of length l: a vertex with `coords` (x, y) and distance d, over the whole edge
unfoldable pub emit_of : Float → Float → Float → Float → Option CandidateWindow
emit_of x y l d = Some (record { b0 = zero64; b1 = l; src = point_source_of x y d })
