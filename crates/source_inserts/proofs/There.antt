-- All that a job's sources make is there: each entry's face and each offer's edge is one of the mesh's. Assumes nothing.
use Rattle.std.specs.Prelude.{Option, Some, None}
use Prim.Native.Nat.{ℕ, ◌+◌, ◌*◌, ◌/◌, ◌<◌}
use mathlib.Core.Bool.{Bool, true, cond, not}
use mathlib.Core.List.{List}
use native.Mathlib.Omega.{arith}
use lib.Ieee.{Float}
use lib.ListN.{length, get_or}
use Rattle.nat_laws.specs.Lists.{All}
use Rattle.vec3.specs.declared.Vec3.{Vec3}
use Rattle.job_checks.specs.Sound.{ValidTriangles}
use Rattle.topology.specs.Edges.{no_face, edges, tri_edge, other}
use Rattle.topology.specs.Frames.{len, coords_x, coords_y}
use Rattle.topology.proofs.Edges.{tri_edge_there}
use Rattle.topology.proofs.Checked.{inside}
use Rattle.wedge_refusal.specs.of_source_windows.declared.Bounds.{Bounds}
use Rattle.wedge_refusal.specs.of_source_windows.declared.Normal.{Normal}
use Rattle.wedge_refusal.specs.of_source_windows.declared.CandidateWindow.{CandidateWindow}
use Rattle.wedge_refusal.specs.of_source_windows.Wedge.{lies_on, point_window_of}
use Rattle.wedge_refusal.specs.of_source_windows.Segment.{in_frame_of, segment_window_of}
use Rattle.source_offers.specs.Offering.{offered, segment_on, point_on, segment_offer, point_offer}
use Rattle.point_wedge.specs.Wedge.{bounds_in}
use Rattle.source_inserts.specs.Inserts.{job_inserts, source_inserts, OfferThere, There}
use Rattle.source_inserts.proofs.Each.{source_all, job_all}

module _ (v : List Float) (triangles : List ℕ) where
  offered_there : (e into : ℕ) (queued : Bool) (range : Option CandidateWindow) → e < length (edges triangles) → OfferThere triangles (offered e into queued range)
  unfolding offered
  offered_there e into queued None l = tt
  offered_there e into queued (Some w) l = l

  module _ (n : ℕ) (valid : ValidTriangles triangles n) (f k : ℕ) (l : f < length triangles / 3) (q : k < 3) where
    abbrev e : ℕ
    e = tri_edge triangles (3 * f + k)

    edge_there : e < length (edges triangles)
    edge_there = let last : 3 * f + 2 < length triangles = inside triangles n valid f l in tri_edge_there triangles (3 * f + k) (omega (arith, last, q))

    point_there : (p : Vec3) (w : Bounds) → OfferThere triangles (point_offer v triangles f k p w)
    unfolding point_offer point_on
    point_there p w =
        let x = coords_x v triangles e p in
        let y = coords_y v triangles e f p in
        offered_there e (cond (lies_on y (len v triangles e)) no_face (other triangles e f)) (not (lies_on y (len v triangles e))) (point_window_of w x y (len v triangles e)) edge_there

    segment_there : (a b : Vec3) (side : Normal) → OfferThere triangles (segment_offer v triangles f k a b side)
    unfolding segment_offer segment_on
    segment_there a b side =
        let s = in_frame_of (coords_x v triangles e a) (coords_y v triangles e f a) (coords_x v triangles e b) (coords_y v triangles e f b) (len v triangles e) in
        offered_there e (other triangles e f) true (segment_window_of s (len v triangles e) side) edge_there

module _ (v : List Float) (triangles : List ℕ) (n : ℕ) (valid : ValidTriangles triangles n) (kinds faces : List ℕ) (coords : List Float) (face_there : (i : ℕ) → i < length kinds → get_or faces i 0 < length triangles / 3) where
  pub source_there : (j : ℕ) → j < 3 * length kinds → All (There triangles) (source_inserts v triangles kinds faces coords j)
  source_there =
      source_all (There triangles) v triangles n valid kinds faces coords face_there (λ g piece part l. l)
      (λ g k l q p carriers. point_there v triangles n valid g k l q p (bounds_in v triangles kinds faces coords g k p carriers)) (segment_there v triangles n valid)

  pub job_there : All (There triangles) (job_inserts v triangles kinds faces coords)
  job_there =
      job_all (There triangles) v triangles n valid kinds faces coords face_there (λ g piece part l. l)
      (λ g k l q p carriers. point_there v triangles n valid g k l q p (bounds_in v triangles kinds faces coords g k p carriers)) (segment_there v triangles n valid)
