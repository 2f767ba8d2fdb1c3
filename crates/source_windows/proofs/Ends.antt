-- What `source_point` and `source_segment` give an edge starts from 0 on and ends up to the edge's length, a finite double from 0 on. Assumes nothing.
use Rattle.std.specs.Prelude.{Option, Some, None}
use mathlib.Core.Bool.{Bool, true, false, cond, not, ◌&&◌}
use mathlib.Core.Path.{◌≡◌, subst}
use mathlib.Core.List.{List, [], ◌∷◌}
use lib.Dec.{T}
use lib.Ieee.{Float, binary64, fits, of_bits, neg, lt, le}
use lib.Ieee.Bits.{of_bits-fits}
use lib.Ieee.Fits.{neg-fits, add-fits, div-fits}
use lib.Ieee.Scale.{finite}
use Rattle.float64.specs.Scalar.{zero64, one, min_of, max_of, abs_of}
use Rattle.float64.specs.Notation.{◌⊕◌, ◌⊖◌, ◌⊗◌, ◌⊘◌}
use Rattle.float_laws.proofs.Order.{le_trans}
use Rattle.float_laws.proofs.MinMax.{min_fits, max_fits}
use Rattle.float_bounds.specs.Within.{Start, ClippedEnd}
use Rattle.float_bounds.proofs.Ends.{start_zero, start_max, end_length, end_min}
use Rattle.vec3.specs.declared.Vec3.{Vec3}
use Rattle.source_windows.specs.declared.CandidateWindow.{CandidateWindow}
use Rattle.source_windows.specs.Tolerance.{narrowest, upright, too_narrow}
use Rattle.source_windows.specs.Wedge.{whole_of, narrow_of, behind_of, wedge_of, point_window_of}
use Rattle.source_windows.specs.Segment.{feet_of, ahead_of, wave_of, nx_of, ny_of, side_window_of, segment_window_of}
use Rattle.source_windows.specs.Ends.{EndsOn, no_window_lem, window}
use Rattle.source_windows.specs.declared.Bounds.{Bounds}
use Rattle.source_windows.specs.declared.EdgeSegment.{EdgeSegment}
use Rattle.source_windows.specs.declared.Normal.{Normal}

-- the ends of a window that there is
pub ends_of : {l : Float} {w : CandidateWindow} {c : Option CandidateWindow} → EndsOn l c → c ≡ Some w → Start w.b0 × ClippedEnd l w.b1
ends_of {l} h e = go (subst (EndsOn l) e h)
  where
    go : {w : CandidateWindow} → EndsOn l (Some w) → Start w.b0 × ClippedEnd l w.b1
    go (window s t) = (s, t)

pub if_either : {A : Type 0} (P : A → Type 0) (b : Bool) {x y : A} → P x → P y → P (cond b x y)
if_either P true h k = h
if_either P false h k = k

module _ (l : Float) (F : T (finite l)) (d : T (fits binary64 l)) (z : T (le zero64 l)) where
  abbrev pub On : Bounds → Type 0
  On w = Start w.b0 × ClippedEnd l w.b1

  pub whole_on : On (whole_of l)
  whole_on = (start_zero, end_length l F d)

  minus_one : ClippedEnd l (neg one)
  unfolding le neg of_bits
  minus_one = record { upto = le_trans (neg one) zero64 l tt z; double = neg-fits binary64 one (of_bits-fits binary64 0x3ff0_0000_0000_0000) }

  -- ---- points
  pub narrow_on : (w : Bounds) (k0 k1 : Float) → On w → On (narrow_of w k0 k1)
  unfolding narrow_of
  narrow_on w k0 k1 h =
      let x = neg k0 ⊘ k1 in
      let e = div-fits binary64 (neg k0) k1 in
      if_either On (lt zero64 k1) (h.0, end_min l w.b1 x h.1 e)
      (if_either On (lt k1 zero64) (start_max w.b0 x h.0 e, h.1)
      (if_either On (lt zero64 k0) (h.0, minus_one) h))

  pub wedge_on : (o p xhat : Vec3) (w : Bounds) (ds : List Vec3) → On w → On (wedge_of o p xhat w ds)
  unfolding wedge_of behind_of
  wedge_on o p xhat w [] h = h
  wedge_on o p xhat w (d ∷ ds) h = wedge_on o p xhat (behind_of o p xhat w d) ds (narrow_on w _ _ h)

  pub point_window_on : (w : Bounds) (x y : Float) → On w → EndsOn l (point_window_of w x y l)
  unfolding point_window_of
  point_window_on w x y h = if_either (EndsOn l) (too_narrow w l) no_window_lem (window h.0 h.1)

  -- ---- segments
  data FeetOn : Option Bounds → Type 0 where
    no_feet : FeetOn None
    feet_on : {w : Bounds} → On w → FeetOn (Some w)

  feet_within : (g : EdgeSegment) → FeetOn (feet_of g l)
  unfolding feet_of
  feet_within g =
      let base = neg g.ax ⊗ g.dx ⊖ g.ay ⊗ g.dy in
      let x0 = neg base ⊘ g.dx in
      let x1 = (g.ll ⊖ base) ⊘ g.dx in
      let p = div-fits binary64 (neg base) g.dx in
      let q = div-fits binary64 (g.ll ⊖ base) g.dx in
      let w : On (record { b0 = max_of zero64 (min_of x0 x1); b1 = min_of l (max_of x0 x1) }) = (start_max zero64 (min_of x0 x1) start_zero (min_fits binary64 x0 x1 p q), end_min l l (max_of x0 x1) (end_length l F d) (max_fits binary64 x0 x1 p q)) in
      if_either FeetOn (lt (upright ⊗ g.sl) (abs_of g.dx)) (feet_on w)
      (if_either FeetOn (not (le zero64 base && le base g.ll)) no_feet (feet_on whole_on))

  ahead_on : (w : Bounds) (g : EdgeSegment) (nx ny : Float) → On w → On (ahead_of w g nx ny)
  unfolding ahead_of
  ahead_on w g nx ny h =
      let x = g.ax ⊕ g.ay ⊗ ny ⊘ nx in
      let e = add-fits binary64 g.ax (g.ay ⊗ ny ⊘ nx) in
      if_either On (lt zero64 nx) (start_max w.b0 x h.0 e, h.1)
      (if_either On (lt nx zero64) (h.0, end_min l w.b1 x h.1 e) h)

  wave_on : {feet : Option Bounds} (g : EdgeSegment) (nx ny : Float) → FeetOn feet → EndsOn l (wave_of feet g nx ny l)
  unfolding wave_of
  wave_on g nx ny no_feet = no_window_lem
  wave_on g nx ny (feet_on {w} h) = let a = ahead_on w g nx ny h in if_either (EndsOn l) (too_narrow (ahead_of w g nx ny) l) no_window_lem (window a.0 a.1)

  pub segment_window_on : (s : Option EdgeSegment) (n : Normal) → EndsOn l (segment_window_of s l n)
  unfolding segment_window_of side_window_of
  segment_window_on None n = no_window_lem
  segment_window_on (Some g) n = if_either (EndsOn l) (le (ny_of g n) narrowest) no_window_lem (wave_on g (nx_of g n) (ny_of g n) (feet_within g))
