-- The candidates of a job's sources stand on edges of the mesh and go into a face of their edge, or into none: source_into, job_into. Assumes nothing.
use Prim.Native.Nat.{ℕ, ◌+◌, ◌*◌, ◌/◌, ◌<◌}
use native.Mathlib.Omega.{arith}
use mathlib.Core.Bool.{Bool, true, false, cond, not}
use mathlib.Core.List.{List}
use mathlib.Core.Logic.{inr}
use mathlib.Core.Path.{refl}
use lib.Ieee.{Float}
use lib.ListN.{length, get_or}
use Rattle.vec3.specs.declared.Vec3.{Vec3}
use Rattle.job_checks.specs.Sound.{ValidTriangles}
use Rattle.topology.specs.Edges.{no_face, edges, tri_edge, other}
use Rattle.topology.specs.Frames.{len, coords_x, coords_y}
use Rattle.topology.proofs.Edges.{tri_edge_there}
use Rattle.topology.proofs.Checked.{inside}
use Rattle.pop.specs.of_better.Claim.{All}
use Rattle.spread_offers.specs.of_source_windows.declared.Bounds.{Bounds}
use Rattle.spread_offers.specs.of_source_windows.declared.Normal.{Normal}
use Rattle.spread_offers.specs.of_source_windows.Wedge.{lies_on, point_window_of}
use Rattle.spread_offers.specs.of_source_windows.Segment.{in_frame_of, segment_window_of}
use Rattle.spread_offers.specs.of_offers.Offers.{offer_list}
use Rattle.spread_offers.specs.of_source_offers.Offering.{segment_on, point_on, segment_offer, point_offer}
use Rattle.source_inserts.specs.of_point_wedge.Wedge.{bounds_in}
use Rattle.source_inserts.specs.declared.Insert.{Insert}
use Rattle.source_inserts.specs.Inserts.{candidates_at, candidates_in, job_inserts, source_inserts}
use Rattle.source_inserts.proofs.Each.{source_all, job_all}
use Rattle.source_inserts.proofs.Proper.{candidates_all}
use Rattle.windows_there.specs.There.{GoesInto, CandidateThere}
use Rattle.windows_there.proofs.Sides.{offered_into, other_into}

module _ (v : List Float) (triangles : List ℕ) (n : ℕ) (valid : ValidTriangles triangles n) where
  abbrev Fine : Insert → Type 0
  Fine x = All (CandidateThere (GoesInto triangles)) (candidates_at x)

  module _ (f k : ℕ) (l : f < length triangles / 3) (q : k < 3) where
    abbrev e : ℕ
    e = tri_edge triangles (3 * f + k)

    edge_there : e < length (edges triangles)
    edge_there = let last : 3 * f + 2 < length triangles = inside triangles n valid f l in tri_edge_there triangles (3 * f + k) (omega (arith, last, q))

    on_edge : (b : Bool) → GoesInto triangles e (cond b no_face (other triangles e f))
    on_edge true = (edge_there, inr refl)
    on_edge false = other_into triangles n valid e edge_there f

    point_into : (p : Vec3) (w : Bounds) → All (CandidateThere (GoesInto triangles)) (offer_list (point_offer v triangles f k p w))
    unfolding point_offer point_on
    point_into p w =
        let x = coords_x v triangles e p in
        let y = coords_y v triangles e f p in
        let on = lies_on y (len v triangles e) in
        offered_into (GoesInto triangles) e (cond on no_face (other triangles e f)) (on_edge on) (not on) (point_window_of w x y (len v triangles e))

    segment_into : (a b : Vec3) (side : Normal) → All (CandidateThere (GoesInto triangles)) (offer_list (segment_offer v triangles f k a b side))
    unfolding segment_offer segment_on
    segment_into a b side =
        let s = in_frame_of (coords_x v triangles e a) (coords_y v triangles e f a) (coords_x v triangles e b) (coords_y v triangles e f b) (len v triangles e) in
        offered_into (GoesInto triangles) e (other triangles e f) (other_into triangles n valid e edge_there f) true (segment_window_of s (len v triangles e) side)

  module _ (kinds faces : List ℕ) (coords : List Float) (face_there : (i : ℕ) → i < length kinds → get_or faces i 0 < length triangles / 3) where
    pub source_into : (j : ℕ) → j < 3 * length kinds → All (CandidateThere (GoesInto triangles)) (candidates_in (source_inserts v triangles kinds faces coords j))
    source_into j l =
        candidates_all (CandidateThere (GoesInto triangles)) (source_inserts v triangles kinds faces coords j)
        (source_all Fine v triangles n valid kinds faces coords face_there (λ g piece part q. tt)
        (λ g k l q p carriers. point_into g k l q p (bounds_in v triangles kinds faces coords g k p carriers)) segment_into j l)

    pub job_into : All (CandidateThere (GoesInto triangles)) (candidates_in (job_inserts v triangles kinds faces coords))
    job_into =
        candidates_all (CandidateThere (GoesInto triangles)) (job_inserts v triangles kinds faces coords)
        (job_all Fine v triangles n valid kinds faces coords face_there (λ g piece part q. tt)
        (λ g k l q p carriers. point_into g k l q p (bounds_in v triangles kinds faces coords g k p carriers)) segment_into)
