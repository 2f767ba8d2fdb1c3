-- Every candidate of a job's sources lies on its edge where it is admitted: job_inside; range_inside, of any range that lies on its edge. Assumes nothing.
use Rattle.std.specs.Prelude.{Option, Some, None}
use Prim.Native.Nat.{ℕ, ◌+◌, ◌*◌, ◌/◌, ◌<◌}
use native.Mathlib.Omega.{arith}
use mathlib.Core.Bool.{Bool, true, cond, not}
use mathlib.Core.List.{List}
use mathlib.Core.Path.{refl}
use lib.ListN.{length, get_or}
use lib.Ieee.{Float}
use Rattle.vec3.specs.declared.Vec3.{Vec3}
use Rattle.source_inserts.specs.of_better.Claim.{All}
use Rattle.job_checks.specs.Sound.{ValidTriangles}
use Rattle.topology.specs.Edges.{no_face, edges, tri_edge, other}
use Rattle.topology.specs.Frames.{origin, len, xhat, coords_x, coords_y}
use Rattle.topology.proofs.Edges.{tri_edge_there}
use Rattle.topology.proofs.Checked.{inside}
use Rattle.spread_offers.specs.of_mesh_laws.Bounds.{EdgeLength}
use Rattle.spread_offers.specs.of_source_windows.declared.Normal.{Normal}
use Rattle.spread_offers.specs.of_source_windows.declared.CandidateWindow.{CandidateWindow}
use Rattle.spread_offers.specs.of_source_windows.Wedge.{whole_of, lies_on, point_window_of}
use Rattle.spread_offers.specs.of_source_windows.Segment.{in_frame_of, segment_window_of}
use Rattle.spread_offers.specs.of_source_windows.Ends.{EndsOn}
use Rattle.spread_offers.proofs.laws_of_source_windows.Ends.{whole_on, wedge_on, segment_window_on, point_window_on, ends_of}
use Rattle.source_inserts.specs.of_trim_model.Model.{Candidate}
use Rattle.spread_offers.proofs.laws_of_candidate_laws.Admitted.{length_point, admitted_inside}
use Rattle.spread_offers.specs.of_offers.Offers.{offer_list}
use Rattle.spread_offers.specs.of_source_offers.Offering.{offered, segment_on, point_on, segment_offer, point_offer}
use Rattle.spread_offers.proofs.laws_of_source_offers.Proper.{from_zero}
use Rattle.source_inserts.specs.of_point_wedge.Wedge.{directions_in, bounds_in}
use Rattle.source_inserts.specs.declared.Insert.{Insert}
use Rattle.source_inserts.specs.declared.Insert.TheVariants.{Offer}
use Rattle.source_inserts.specs.Inserts.{job_inserts, candidates_at, candidates_in}
use Rattle.source_inserts.proofs.Each.{job_all}
use Rattle.source_inserts.proofs.Proper.{candidates_all}
use Rattle.inside_edges.specs.Inside.{AdmittedInside}

pub range_inside : (limit : Float) (length : ℕ → Float) (e into : ℕ) (queued : Bool) → EdgeLength (length e) → (r : Option CandidateWindow) → EndsOn (length e) r → All (AdmittedInside limit length) (offer_list (offered e into queued r))
unfolding offered
range_inside limit length e into queued long None on = tt
range_inside limit length e into queued long (Some w) on =
    let c : Candidate = record { edge = e; b0 = w.b0; b1 = w.b1; src = w.src; carried = record { into = record { 0 = into }; queued = queued } } in
    let ends = ends_of {l = length e} {w = w} {c = Some w} on refl in
    ((λ admitted. admitted_inside limit length c (length_point (length e) long) long.positive admitted ends.0 ends.1), tt)

module _ (limit : Float) (v : List Float) (triangles : List ℕ) (n : ℕ) (valid : ValidTriangles triangles n) (kinds faces : List ℕ) (coords : List Float)
    (face_there : (i : ℕ) → i < length kinds → get_or faces i 0 < length triangles / 3) (long : (e : ℕ) → e < length (edges triangles) → EdgeLength (len v triangles e)) where
  abbrev Fine : Insert → Type 0
  Fine x = All (AdmittedInside limit (len v triangles)) (candidates_at x)

  module _ (f k : ℕ) (l : f < length triangles / 3) (q : k < 3) where
    abbrev e : ℕ
    e = tri_edge triangles (3 * f + k)

    side_long : EdgeLength (len v triangles e)
    side_long = let last : 3 * f + 2 < length triangles = inside triangles n valid f l in long e (tri_edge_there triangles (3 * f + k) (omega (arith, last, q)))

    point_fine : (p : Vec3) (carriers : List ℕ) → Fine (Offer (point_offer v triangles f k p (bounds_in v triangles kinds faces coords f k p carriers)))
    unfolding point_offer point_on bounds_in
    point_fine p carriers =
        let d = side_long in
        let z = from_zero limit v triangles f k d in
        let x = coords_x v triangles e p in
        let y = coords_y v triangles e f p in
        let w = bounds_in v triangles kinds faces coords f k p carriers in
        range_inside limit (len v triangles) e (cond (lies_on y (len v triangles e)) no_face (other triangles e f)) (not (lies_on y (len v triangles e))) d (point_window_of w x y (len v triangles e))
        (point_window_on (len v triangles e) d.number d.double z w x y
        (wedge_on (len v triangles e) d.number d.double z (origin v triangles e) p (xhat v triangles e) (whole_of (len v triangles e)) (directions_in v triangles kinds faces coords f carriers p) (whole_on (len v triangles e) d.number d.double z)))

    segment_fine : (a b : Vec3) (side : Normal) → Fine (Offer (segment_offer v triangles f k a b side))
    unfolding segment_offer segment_on
    segment_fine a b side =
        let d = side_long in
        let s = in_frame_of (coords_x v triangles e a) (coords_y v triangles e f a) (coords_x v triangles e b) (coords_y v triangles e f b) (len v triangles e) in
        range_inside limit (len v triangles) e (other triangles e f) true d (segment_window_of s (len v triangles e) side) (segment_window_on (len v triangles e) d.number d.double (from_zero limit v triangles f k d) s side)

  pub job_inside : All (AdmittedInside limit (len v triangles)) (candidates_in (job_inserts v triangles kinds faces coords))
  job_inside =
      candidates_all (AdmittedInside limit (len v triangles)) (job_inserts v triangles kinds faces coords)
      (job_all Fine v triangles n valid kinds faces coords face_there (λ g piece part q. tt) point_fine segment_fine)
