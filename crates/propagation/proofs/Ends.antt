-- What a window passes on, and what a vertex emits, starts from 0 on and ends up to the edge's length, a finite double. Assumes nothing.
use Rattle.std.specs.Prelude.{Option, Some, None}
use mathlib.Core.Bool.{Bool, true, false, cond}
use lib.Dec.{T}
use lib.Ieee.{Float, binary64, fits, inf, neg, le}
use lib.Ieee.Fits.{cond-fits, inf-fits, add-fits}
use lib.Ieee.Scale.{finite}
use Rattle.float64.specs.Scalar.{zero64, min_of, max_of}
use Rattle.float64.specs.Notation.{◌⊖◌, ◌⊗◌, ◌⊘◌}
use Rattle.float_laws.proofs.MinMax.{min_fits, max_fits}
use Rattle.float_bounds.proofs.Ends.{start_zero, max_start, end_length, min_end}
use Rattle.source.specs.declared.Src.{Src}
use Rattle.source.specs.declared.Src.TheVariants.{Point, Line}
use Rattle.source_windows.specs.Tolerance.{too_narrow}
use Rattle.source_windows.specs.Ends.{EndsOn, no_window_lem, window}
use Rattle.source_windows.specs.declared.Bounds.{Bounds}
use Rattle.source_windows.specs.declared.CandidateWindow.{CandidateWindow}
use Rattle.propagation.specs.Plane.{frame_of, turn_to, map_to}
use Rattle.propagation.specs.Propagate.{image_of_point, image_of_line, clipped_of, images_of, part_of, side_of, xc_of, after_ray, propagate_of, emit_of}
use Rattle.propagation.specs.Clipped.{ClippedTo, none_passed, passed}
use Rattle.propagation.specs.declared.Vec2.{Vec2}
use Rattle.propagation.specs.declared.FaceAhead.{FaceAhead}
use Rattle.propagation.specs.declared.Frame.{Frame}
use Rattle.propagation.specs.declared.NextEdge.{NextEdge}
use Rattle.propagation.specs.declared.Side.{Side}

-- ---- an image is a double
past : (b c : Bool) (x : Float) → T (fits binary64 x) → T (fits binary64 (cond b (cond c (inf false) (inf true)) x))
past b c x h = cond-fits binary64 b _ x (cond-fits binary64 c (inf false) (inf true) (inf-fits binary64 false) (inf-fits binary64 true)) h

point_fits : (f : Frame) (sn : Vec2) (x : Float) → T (fits binary64 (image_of_point f sn x))
unfolding image_of_point
point_fits f sn x =
    let xn = map_to f (record { x = x; y = zero64 }) in
    let k = xn.y ⊖ sn.y in
    past (le k zero64) (le sn.x xn.x) _ (add-fits binary64 sn.x ((xn.x ⊖ sn.x) ⊗ neg sn.y ⊘ k))

line_fits : (f : Frame) (un : Vec2) (x : Float) → T (fits binary64 (image_of_line f un x))
unfolding image_of_line
line_fits f un x =
    let xn = map_to f (record { x = x; y = zero64 }) in
    past (le un.y zero64) (le zero64 un.x) _ (add-fits binary64 xn.x (un.x ⊗ neg xn.y ⊘ un.y))

-- ---- cut off at the edge's ends
clipped_is : (i0 i1 ln : Float) (src : Src) → T (fits binary64 i0) → T (fits binary64 i1) → ClippedTo ln (clipped_of i0 i1 ln src)
unfolding clipped_of
clipped_is i0 i1 ln src p q = passed (min_of i0 i1) (max_of i0 i1) src (min_fits binary64 i0 i1 p q) (max_fits binary64 i0 i1 p q)

images_clipped : (src : Src) (f : Frame) (r : Bounds) (ln : Float) → ClippedTo ln (images_of src f r ln)
unfolding images_of
images_clipped (Point sx sy s) f r ln = clipped_is _ _ ln _ (point_fits f (map_to f (record { x = sx; y = sy })) r.b0) (point_fits f (map_to f (record { x = sx; y = sy })) r.b1)
images_clipped (Line ux uy c) f r ln = clipped_is _ _ ln _ (line_fits f (turn_to f (record { x = ux; y = uy })) r.b0) (line_fits f (turn_to f (record { x = ux; y = uy })) r.b1)

none_or : (b : Bool) {ln : Float} {x : Option CandidateWindow} → ClippedTo ln x → ClippedTo ln (cond b None x)
none_or true h = none_passed
none_or false h = h

pub side_clipped : (src : Src) (w : Bounds) (g : FaceAhead) (xc : Float) (side : Side) (ne : NextEdge) → ClippedTo ne.ln (side_of src w g xc side ne)
unfolding side_of
side_clipped src w g xc side ne = none_or (too_narrow (part_of side w xc) g.l) (images_clipped src (frame_of g side ne) (part_of side w xc) ne.ln)

pub propagate_clipped : (src : Src) (w : Bounds) (g : FaceAhead) (side : Side) (ne : NextEdge) → ClippedTo ne.ln (propagate_of src w g side ne)
unfolding propagate_of after_ray
propagate_clipped src w g side ne = go (xc_of src g)
  where
    go : (r : Option Float) → ClippedTo ne.ln (after_ray r src w g side ne)
    go None = none_passed
    go (Some xc) = side_clipped src w g xc side ne

-- ---- on the edge
module _ (l : Float) (F : T (finite l)) (d : T (fits binary64 l)) where
  pub clipped_on : {x : Option CandidateWindow} → ClippedTo l x → EndsOn l x
  clipped_on none_passed = no_window_lem
  clipped_on (passed lo hi src p q) = window (max_start zero64 lo start_zero p) (min_end l l hi (end_length l F d) q)

  pub emit_on : (x y s : Float) → EndsOn l (emit_of x y l s)
  unfolding emit_of
  emit_on x y s = window start_zero (end_length l F d)

pub propagate_on : (src : Src) (w : Bounds) (g : FaceAhead) (side : Side) (ne : NextEdge) → T (finite ne.ln) → T (fits binary64 ne.ln) → EndsOn ne.ln (propagate_of src w g side ne)
propagate_on src w g side ne F d = clipped_on ne.ln F d (propagate_clipped src w g side ne)
