-- What a window that is propagated, and a vertex that passes distances on, offer: one turn of the loop of the Rust's `propagate`, and one of `emit`. Definitions only.
-- First as the Rust has it, of a mesh's topology; then as the mesh's buffers are read.
use Rattle.std.specs.Prelude.{ℕ, ◌+◌, ◌*◌, Bool, cond, ◌||◌, List, eqb, Float, if◌then◌else◌, Option, None}
use Rattle.std.proofs.Math.Bool.{true}
use Rattle.std.proofs.Math.ListN.{get_or}
use Rattle.job_checks.specs.Edge.{vertex_at}
use Rattle.topology.specs.Edges.{EndPair, no_edge, edges, tri_edge, other, third, edge_between}
use Rattle.topology.specs.Frames.{len, coords_x, coords_y}
use Rattle.source_offers.specs.of_frames.Stored.{length_at}
use Rattle.source_offers.specs.of_mesh_readers.Readers.{edge_at, other_at, side_in, edge_between_at, coords_at}
use Rattle.source.specs.declared.Src.{Src}
use Rattle.propagation.specs.declared.Side.{Side}
use Rattle.propagation.specs.declared.Side.TheVariants.{First, Second}
use Rattle.propagation.specs.declared.FaceAhead.{FaceAhead}
use Rattle.propagation.specs.declared.NextEdge.{NextEdge}
use Rattle.propagation.specs.Plane.{vertex_of}
use Rattle.propagation.specs.Propagate.{propagate_of, emit_of}
use Rattle.source_offers.specs.of_offers.declared.Offered.{Offered}
use Rattle.source_offers.specs.Offering.{offered}
use Rattle.spread_offers.specs.declared.Opposite.{Opposite}

-- turn k of `for (side, r0, r1) in [(a, ..), (b, ..)]`, and its `side`
unfoldable pub side_number : ℕ → Side
side_number k = cond (eqb k 0) First Second

unfoldable pub side_end : Side → EndPair → ℕ
side_end First ends = ends.low
side_end Second ends = ends.high

-- the edge [p, q] of length ln, as the Rust's `pos` takes its ends, beside the edge [a, b]
unfoldable pub next_edge_of : EndPair → EndPair → Float → NextEdge
next_edge_of ab pq ln =
    record {
      p = vertex_of (record { 0 = pq.low }) (record { 0 = ab.low }) (record { 0 = ab.high });
      q = vertex_of (record { 0 = pq.high }) (record { 0 = ab.low }) (record { 0 = ab.high });
      ln = ln;
    }

-- the Rust's `a == vx || b == vx`
unfoldable pub at_end : ℕ → EndPair → Bool
at_end vx ab = eqb ab.low vx || eqb ab.high vx

-- ---- of a mesh
module _ (v : List Float) (triangles : List ℕ) where
  -- `propagate` of the window b0 to b1 of edge e into face g; its `find(..).unwrap()` finds the next edge where g is a face of e (`next_edge` of topology)
  unfoldable pub propagate_offer : ℕ → ℕ → Float → Float → Src → ℕ → Option Offered
  unfolding offered
  propagate_offer e g b0 b1 src k =
      let ab = get_or (edges triangles) e no_edge in
      let c = third triangles e g in
      let ahead : FaceAhead = record { l = len v triangles e; cx = coords_x v triangles e (vertex_at v c); cy = coords_y v triangles e g (vertex_at v c) } in
      let side = side_number k in
      let ne = edge_between triangles g (side_end side ab) c in
      let next = next_edge_of ab (get_or (edges triangles) ne no_edge) (len v triangles ne) in
      offered ne (other triangles ne g) true (propagate_of src (record { b0 = b0; b1 = b1 }) ahead side next)

  -- `emit` of vertex vx at distance d, on side k of face g
  unfoldable pub emit_offer : ℕ → ℕ → ℕ → Float → Option Offered
  unfolding offered
  emit_offer g k vx d =
      let e = tri_edge triangles (3 * g + k) in
      let p = vertex_at v vx in
      if at_end vx (get_or (edges triangles) e no_edge) then None else
      offered e (other triangles e g) true (emit_of (coords_x v triangles e p) (coords_y v triangles e g p) (len v triangles e) d)

-- ---- as the buffers are read
module _ (v : List Float) (edge_words : List ℕ) (edge_reals : List Float) (triangle_words : List ℕ) (triangleReals : List Float) where
  unfoldable pub ahead_at : ℕ → ℕ → ℕ → FaceAhead
  ahead_at e g c =
      let p = coords_at v edge_words edge_reals triangle_words triangleReals e g (vertex_at v c) in
      record { l = length_at edge_reals e; cx = p.x; cy = p.y }

  unfoldable pub emit_offer_at : ℕ → ℕ → ℕ → Float → Option Offered
  unfolding offered
  emit_offer_at g k vx d =
      let e = side_in triangle_words g k in
      let p = coords_at v edge_words edge_reals triangle_words triangleReals e g (vertex_at v vx) in
      if at_end vx (edge_at edge_words e) then None else
      offered e (other_at edge_words e g) true (emit_of p.x p.y (length_at edge_reals e) d)

abbrev pub next_edge_at : List ℕ → List Float → ℕ → ℕ → NextEdge
next_edge_at edge_words edge_reals e ne = next_edge_of (edge_at edge_words e) (edge_at edge_words ne) (length_at edge_reals ne)

module _ (edge_words : List ℕ) (edge_reals : List Float) (triangle_words : List ℕ) where
  -- o is the face ahead
  unfoldable pub propagate_offer_at : Opposite → ℕ → ℕ → Float → Float → Src → ℕ → Option Offered
  unfolding offered
  propagate_offer_at o e g b0 b1 src k =
      let side = side_number k in
      let ne = edge_between_at edge_words triangle_words g (side_end side (edge_at edge_words e)) o.c.0 in
      offered ne (other_at edge_words ne g) true (propagate_of src (record { b0 = b0; b1 = b1 }) o.ahead side (next_edge_at edge_words edge_reals e ne))
