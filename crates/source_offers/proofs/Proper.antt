-- What a source offers is proper where it is admitted, as demand 3 asks, in a mesh whose edges have the lengths of a checked one: segment_proper, point_proper; range_proper, of any range that lies on its edge. Assumes nothing.
use Rattle.std.specs.Prelude.{Option, Some, None}
use Prim.Native.Nat.{ℕ, ◌+◌, ◌*◌}
use mathlib.Core.Bool.{Bool, true, cond, not}
use mathlib.Core.List.{List}
use mathlib.Core.Path.{refl}
use lib.Dec.{T}
use lib.Ieee.{Float, le}
use Rattle.float64.specs.Scalar.{zero64}
use Rattle.float_laws.proofs.Order.{lt_le}
use Rattle.vec3.specs.declared.Vec3.{Vec3}
use Rattle.topology.specs.Edges.{no_face, tri_edge, other}
use Rattle.topology.specs.Frames.{len, coords_x, coords_y}
use Rattle.candidate_laws.specs.of_mesh_laws.Bounds.{EdgeLength}
use Rattle.candidate_laws.specs.of_source_windows.declared.Bounds.{Bounds}
use Rattle.candidate_laws.specs.of_source_windows.declared.Normal.{Normal}
use Rattle.candidate_laws.specs.of_source_windows.declared.CandidateWindow.{CandidateWindow}
use Rattle.candidate_laws.specs.of_source_windows.Wedge.{lies_on, point_window_of}
use Rattle.candidate_laws.specs.of_source_windows.Segment.{in_frame_of, segment_window_of}
use Rattle.candidate_laws.specs.of_source_windows.Ends.{EndsOn}
use Rattle.candidate_laws.proofs.laws_of_source_windows.Ends.{On, segment_window_on, point_window_on}
use Rattle.candidate_laws.specs.of_better.Claim.{All}
use Rattle.candidate_laws.specs.of_trim_model.Claim.{AdmittedProper}
use Rattle.candidate_laws.proofs.Admitted.{length_point, offered_proper}
use Rattle.offers.specs.Offers.{offer_list}
use Rattle.source_offers.specs.Offering.{offered, segment_on, point_on, segment_offer, point_offer}

module _ (limit : Float) (length : ℕ → Float) (e into : ℕ) (queued : Bool) (long : EdgeLength (length e)) where
  pub range_proper : (r : Option CandidateWindow) → EndsOn (length e) r → All (AdmittedProper limit length) (offer_list (offered e into queued r))
  unfolding offered
  range_proper None on = tt
  range_proper (Some w) on =
      (λ admitted. offered_proper limit length (record { edge = e; b0 = w.b0; b1 = w.b1; src = w.src; carried = record { into = record { 0 = into }; queued = queued } }) (length_point (length e) long) long.positive admitted on refl, tt)

-- of side k of face f, whose edge has a checked length
module _ (limit : Float) (v : List Float) (triangles : List ℕ) (f k : ℕ) (long : EdgeLength (len v triangles (tri_edge triangles (3 * f + k)))) where
  abbrev e : ℕ
  e = tri_edge triangles (3 * f + k)

  abbrev l : Float
  l = len v triangles e

  pub from_zero : T (le zero64 l)
  from_zero = lt_le zero64 l long.positive

  pub segment_proper : (a b : Vec3) (n : Normal) → All (AdmittedProper limit (len v triangles)) (offer_list (segment_offer v triangles f k a b n))
  unfolding segment_offer segment_on
  segment_proper a b n =
      let s = in_frame_of (coords_x v triangles e a) (coords_y v triangles e f a) (coords_x v triangles e b) (coords_y v triangles e f b) l in
      range_proper limit (len v triangles) e (other triangles e f) true long (segment_window_of s l n) (segment_window_on l long.number long.double from_zero s n)

  pub point_proper : (p : Vec3) (w : Bounds) → On l long.number long.double from_zero w → All (AdmittedProper limit (len v triangles)) (offer_list (point_offer v triangles f k p w))
  unfolding point_offer point_on
  point_proper p w on =
      let x = coords_x v triangles e p in
      let y = coords_y v triangles e f p in
      range_proper limit (len v triangles) e (cond (lies_on y l) no_face (other triangles e f)) (not (lies_on y l)) long (point_window_of w x y l)
      (point_window_on l long.number long.double from_zero w x y on)
