-- The offers as the code computes them. Assumes nothing.
use Rattle.std.specs.declared.option.Option.{Option}
use Rattle.std.specs.declared.option.Option.TheVariants.{None}
use Prim.Native.Nat.{ℕ}
use mathlib.Core.Bool.{Bool, true, false, cond, not}
use mathlib.Core.List.{List}
use mathlib.Core.Path.{◌≡◌, refl, sym, ap, ◌∙◌}
use lib.Dec.{T}
use Rattle.nat_laws.proofs.Tests.{holds}
use lib.Ieee.{Float}
use Rattle.buffers.specs.declared.EdgeId.{EdgeId}
use Rattle.buffers.specs.declared.FaceId.{FaceId}
use Rattle.vec3.specs.declared.Vec3.{Vec3}
use Rattle.topology.specs.Edges.{no_face}
use Rattle.offers.specs.of_frames.Stored.{length_at}
use Rattle.offers.specs.of_mesh_readers.declared.FrameCoords.{FrameCoords}
use Rattle.offers.specs.of_mesh_readers.Readers.{side_in, other_at, coords_at}
use Rattle.candidate_laws.specs.of_source_windows.declared.Bounds.{Bounds}
use Rattle.candidate_laws.specs.of_source_windows.declared.Normal.{Normal}
use Rattle.candidate_laws.specs.of_source_windows.declared.EdgeSegment.{EdgeSegment}
use Rattle.candidate_laws.specs.of_source_windows.declared.CandidateWindow.{CandidateWindow}
use Rattle.candidate_laws.specs.of_source_windows.Tolerance.{too_narrow}
use Rattle.candidate_laws.specs.of_source_windows.Back.{goes_back_along}
use Rattle.candidate_laws.specs.of_source_windows.Wedge.{lies_on, point_window_of}
use Rattle.candidate_laws.proofs.laws_of_source_windows.Back.{goes_back}
use Rattle.candidate_laws.specs.of_source_windows.Segment.{in_frame_of, segment_window_of}
use Rattle.offers.specs.declared.Offered.{Offered}
use Rattle.source_offers.specs.Offering.{offered, along_at, segment_on, point_on, segment_offer_at, point_offer_at}

module _ (v : List Float) (ew : List ℕ) (er : List Float) (tw : List ℕ) (tr : List Float) (f k : ℕ) (e : EdgeId) (l : Float) (g : FaceId) (side : e ≡ record { 0 = side_in tw f k }) (long : l ≡ length_at er e.0) where
  abbrev Coords : FrameCoords → Vec3 → Type 0
  Coords q p = q ≡ coords_at v ew er tw tr e.0 f p

  -- with the edge's number z
  abbrev segment_at : Vec3 → Vec3 → Normal → ℕ → Option Offered
  segment_at a b n z =
      segment_on z (length_at er z) (other_at ew z f) (coords_at v ew er tw tr z f a).x (coords_at v ew er tw tr z f a).y (coords_at v ew er tw tr z f b).x (coords_at v ew er tw tr z f b).y n

  abbrev offered_from_point : Vec3 → Bounds → ℕ → Option Offered
  offered_from_point p w z = point_on z (length_at er z) (other_at ew z f) (coords_at v ew er tw tr z f p).x (coords_at v ew er tw tr z f p).y w

  pub segment_is : (a b : Vec3) (n : Normal) (p q : FrameCoords) → Coords p a → Coords q b → (s : Option EdgeSegment) → s ≡ in_frame_of p.x p.y q.x q.y l
      → (w : Option CandidateWindow) → w ≡ segment_window_of s l n → g ≡ record { 0 = other_at ew e.0 f } → (r : Option Offered) → r ≡ offered e.0 g.0 true w
      → r ≡ segment_offer_at v ew er tw tr f k a b n
  unfolding segment_on segment_offer_at
  segment_is a b n p q hp hq s hs w hw hg r hr =
      let W : w ≡ segment_window_of (in_frame_of p.x p.y q.x q.y l) l n = hw ∙ ap (λ (z : Option EdgeSegment). segment_window_of z l n) hs in
      hr ∙ (λ i. offered e.0 (hg i).0 true (W i)) ∙ (λ i. segment_on e.0 (long i) (other_at ew e.0 f) (hp i).x (hp i).y (hq i).x (hq i).y n) ∙ (λ i. segment_at a b n (side i).0)

  module _ (p : Vec3) (w : Bounds) (c : FrameCoords) (hc : Coords c p) (range : Option CandidateWindow) (hw : range ≡ point_window_of w c.x c.y l) (on : Bool) (hon : on ≡ lies_on c.y l) where
    point_as : (b : Bool) → on ≡ b → offered e.0 (cond b no_face (other_at ew e.0 f)) (not b) range ≡ point_offer_at v ew er tw tr f k p w
    unfolding point_on point_offer_at
    point_as b h =
        let B : b ≡ lies_on c.y l = sym h ∙ hon in
        (λ i. offered e.0 (cond (B i) no_face (other_at ew e.0 f)) (not (B i)) (hw i)) ∙ (λ i. point_on e.0 (long i) (other_at ew e.0 f) (hc i).x (hc i).y w) ∙ (λ i. offered_from_point p w (side i).0)

    pub point_on_lem : on ≡ true → g ≡ record { 0 = no_face } → (r : Option Offered) → r ≡ offered e.0 g.0 false range → r ≡ point_offer_at v ew er tw tr f k p w
    point_on_lem y hg r h = h ∙ (λ i. offered e.0 (hg i).0 false range) ∙ point_as true y

    pub point_off : on ≡ false → g ≡ record { 0 = other_at ew e.0 f } → (r : Option Offered) → r ≡ offered e.0 g.0 true range → r ≡ point_offer_at v ew er tw tr f k p w
    point_off y hg r h = h ∙ (λ i. offered e.0 (hg i).0 true range) ∙ point_as false y

-- ---- what is told without the frame
module _ (v : List Float) (ew : List ℕ) (er : List Float) (tw : List ℕ) (tr : List Float) (f k : ℕ) (e : EdgeId) (side : e ≡ record { 0 = side_in tw f k }) where
  along_is : (z : ℕ) (p : Vec3) → along_at v ew er z p ≡ (coords_at v ew er tw tr z f p).x
  unfolding along_at coords_at
  along_is z p = refl

  -- a segment that goes back
  pub segment_back : (a b : Vec3) (n : Normal) (x y : Float) → x ≡ along_at v ew er e.0 a → y ≡ along_at v ew er e.0 b → (t : Bool) → t ≡ goes_back_along x y n → t ≡ true → None ≡ segment_offer_at v ew er tw tr f k a b n
  unfolding segment_on segment_offer_at offered
  segment_back a b n x y hx hy t ht y₁ =
      let z = side_in tw f k in
      let p = coords_at v ew er tw tr z f a in
      let q = coords_at v ew er tw tr z f b in
      let X : x ≡ p.x = hx ∙ (λ i. along_at v ew er (side i).0 a) ∙ along_is z a in
      let Y : y ≡ q.x = hy ∙ (λ i. along_at v ew er (side i).0 b) ∙ along_is z b in
      let back : T (goes_back_along p.x q.x n) = holds (goes_back_along p.x q.x n) ((λ i. goes_back_along (sym X i) (sym Y i) n) ∙ sym ht ∙ y₁) in
      ap (offered z (other_at ew z f) true) (sym (goes_back p.x p.y q.x q.y (length_at er z) n back))

  -- a point whose wedge leaves too little
  pub point_narrow : (p : Vec3) (w : Bounds) (l : Float) → l ≡ length_at er e.0 → (t : Bool) → t ≡ too_narrow w l → t ≡ true → None ≡ point_offer_at v ew er tw tr f k p w
  unfolding point_on point_offer_at offered point_window_of
  point_narrow p w l hl t ht y =
      let z = side_in tw f k in
      let c = coords_at v ew er tw tr z f p in
      let narrow : too_narrow w (length_at er z) ≡ true = (λ i. too_narrow w (sym (hl ∙ (λ j. length_at er (side j).0)) i)) ∙ sym ht ∙ y in
      rw (narrow)
