-- What a source segment and a source point offer to a side of a face: the Rust's `source_segment` and `source_point` for one edge. Definitions only.
-- First as the Rust has it, of a mesh's topology; then as the mesh's buffers are read.
use Rattle.std.specs.Prelude.{ℕ, ◌+◌, ◌*◌, Bool, true, cond, not, List, Float, Option, None, Some}
use Rattle.vec3.specs.declared.Vec3.{Vec3}
use Rattle.topology.specs.Edges.{no_face, tri_edge, other}
use Rattle.topology.specs.Frames.{len, coords_x, coords_y}
use Rattle.vec3.specs.Vec.{sub_of, dot_of}
use Rattle.offers.specs.of_frames.Stored.{length_at, unit_at, origin_at}
use Rattle.offers.specs.of_mesh_readers.Readers.{side_in, other_at, coords_at}
use Rattle.candidate_laws.specs.of_source_windows.declared.Bounds.{Bounds}
use Rattle.candidate_laws.specs.of_source_windows.declared.Normal.{Normal}
use Rattle.candidate_laws.specs.of_source_windows.declared.CandidateWindow.{CandidateWindow}
use Rattle.candidate_laws.specs.of_source_windows.Wedge.{lies_on, point_window_of}
use Rattle.candidate_laws.specs.of_source_windows.Segment.{in_frame_of, segment_window_of}
use Rattle.offers.specs.declared.Offered.{Offered}

-- the Rust's `Win { edge, into, b0, b1, src, queued, .. }` of a range, or nothing
unfoldable pub offered : ℕ → ℕ → Bool → Option CandidateWindow → Option Offered
offered e into queued None = None
offered e into queued (Some w) = Some (record { edge = record { 0 = e }; window = record { b0 = w.b0; b1 = w.b1; src = w.src; carried = record { into = record { 0 = into }; queued = queued } } })

-- on edge e of length l: of a segment whose ends have `coords` (ax, ay) and (bx, by), side n
unfoldable pub segment_on : ℕ → Float → ℕ → Float → Float → Float → Float → Normal → Option Offered
unfolding offered
segment_on e l beyond ax ay bx by n = offered e beyond true (segment_window_of (in_frame_of ax ay bx by l) l n)

-- of a point with `coords` (x, y), the range w that its wedge leaves; one that lies on the edge goes nowhere
unfoldable pub point_on : ℕ → Float → ℕ → Float → Float → Bounds → Option Offered
unfolding offered
point_on e l beyond x y w = let on = lies_on y l in offered e (cond on no_face beyond) (not on) (point_window_of w x y l)

-- ---- of side k of face f of a mesh
module _ (v : List Float) (triangles : List ℕ) (f k : ℕ) where
  unfoldable pub segment_offer : Vec3 → Vec3 → Normal → Option Offered
  unfolding segment_on
  segment_offer a b n =
      let e = tri_edge triangles (3 * f + k) in
      segment_on e (len v triangles e) (other triangles e f) (coords_x v triangles e a) (coords_y v triangles e f a) (coords_x v triangles e b) (coords_y v triangles e f b) n

  unfoldable pub point_offer : Vec3 → Bounds → Option Offered
  unfolding point_on
  point_offer p w =
      let e = tri_edge triangles (3 * f + k) in
      point_on e (len v triangles e) (other triangles e f) (coords_x v triangles e p) (coords_y v triangles e f p) w

-- ---- as the buffers are read
-- the x of `coords`
unfoldable pub along_at : List Float → List ℕ → List Float → ℕ → Vec3 → Float
along_at v edge_words edge_reals e p = dot_of (sub_of p (origin_at v edge_words e)) (unit_at edge_reals e)

module _ (v : List Float) (edge_words : List ℕ) (edge_reals : List Float) (triangle_words : List ℕ) (triangleReals : List Float) (f k : ℕ) where
  unfoldable pub segment_offer_at : Vec3 → Vec3 → Normal → Option Offered
  unfolding segment_on
  segment_offer_at a b n =
      let e = side_in triangle_words f k in
      let p = coords_at v edge_words edge_reals triangle_words triangleReals e f a in
      let q = coords_at v edge_words edge_reals triangle_words triangleReals e f b in
      segment_on e (length_at edge_reals e) (other_at edge_words e f) p.x p.y q.x q.y n

  unfoldable pub point_offer_at : Vec3 → Bounds → Option Offered
  unfolding point_on
  point_offer_at p w =
      let e = side_in triangle_words f k in
      let c = coords_at v edge_words edge_reals triangle_words triangleReals e f p in
      point_on e (length_at edge_reals e) (other_at edge_words e f) c.x c.y w
