-- Where the buffers hold a mesh's topology, what is offered is what the Rust adds, to an edge of the mesh. Assumes nothing.
--     of a window     opposite_held, propagate_held, propagate_there, next_there (the next edge is one of the mesh's)
--     of a vertex     emit_held, emit_there
use Rattle.std.specs.declared.option.Option.{Option}
use Rattle.std.specs.declared.option.Option.TheVariants.{None}
use Prim.Native.Nat.{ℕ, ◌+◌, ◌*◌, ◌/◌, ◌<◌}
use native.Mathlib.Omega.{arith}
use mathlib.Core.Bool.{Bool, true, false, cond}
use mathlib.Core.List.{List}
use mathlib.Core.Path.{◌≡◌, ◌∙◌}
use lib.ListN.{length, get_or}
use lib.Ieee.{Float}
use Rattle.buffers.specs.declared.EdgeId.{EdgeId}
use Rattle.buffers.specs.declared.FaceId.{FaceId}
use Rattle.vec3.specs.declared.Vec3.{Vec3}
use Rattle.job_checks.specs.Edge.{vertex_at}
use Rattle.job_checks.specs.Sound.{ValidTriangles}
use Rattle.topology.specs.Edges.{no_edge, joins, edges, tri_edge, other, third, edge_between}
use Rattle.topology.specs.Frames.{len, coords_x, coords_y}
use Rattle.topology.proofs.Edges.{tri_edge_there}
use Rattle.topology.proofs.Checked.{inside}
use Rattle.source_offers.specs.of_frames.Stored.{length_at}
use Rattle.source_offers.specs.of_mesh_readers.Held.{HoldsMesh}
use Rattle.source_offers.specs.of_mesh_readers.Readers.{edge_at, other_at, side_in, third_at, edge_between_at, coords_at}
use Rattle.source_offers.proofs.laws_of_mesh_readers.Held.{edge_held, other_held, side_held, third_held, between_held, coords_held}
use Rattle.source.specs.declared.Src.{Src}
use Rattle.propagation.specs.of_source_windows.declared.Bounds.{Bounds}
use Rattle.propagation.specs.declared.Side.{Side}
use Rattle.propagation.specs.declared.FaceAhead.{FaceAhead}
use Rattle.propagation.specs.Propagate.{propagate_of, emit_of}
use Rattle.source_offers.specs.of_offers.declared.Offered.{Offered}
use Rattle.source_offers.specs.of_offers.Offers.{EdgeThere}
use Rattle.source_offers.specs.of_offers.Walks.{MeshIn, edge_data}
use Rattle.source_offers.specs.Offering.{offered}
use Rattle.source_offers.proofs.Held.{offered_there}
use Rattle.spread_offers.specs.Offering.{side_number, side_end, next_edge_of, at_end, propagate_offer, emit_offer, ahead_at, next_edge_at, propagate_offer_at, emit_offer_at}
use Rattle.spread_offers.specs.declared.Spread.TheVariants.{Window}
use Rattle.spread_offers.specs.declared.Opposite.{Opposite}
use Rattle.spread_offers.specs.Spreading.{opposite_at}

one_of_three : (p q : Bool) (a b c m : ℕ) → a < m → b < m → c < m → cond p a (cond q b c) < m
one_of_three true q a b c m x y z = x
one_of_three false true a b c m x y z = y
one_of_three false false a b c m x y z = z

-- the edges that something may be offered to
module _ (triangles : List ℕ) (n : ℕ) (valid : ValidTriangles triangles n) (g : ℕ) (there : g < length triangles / 3) where
  pub last : 3 * g + 2 < length triangles
  last = inside triangles n valid g there

  pub side_there : (k : ℕ) → k < 3 → tri_edge triangles (3 * g + k) < length (edges triangles)
  side_there k q = tri_edge_there triangles (3 * g + k) (omega (arith, last))

  pub next_there : (a b : ℕ) → edge_between triangles g a b < length (edges triangles)
  unfolding edge_between
  next_there a b =
      one_of_three (joins a b (get_or (edges triangles) (tri_edge triangles (3 * g)) no_edge)) (joins a b (get_or (edges triangles) (tri_edge triangles (3 * g + 1)) no_edge))
      (tri_edge triangles (3 * g)) (tri_edge triangles (3 * g + 1)) (tri_edge triangles (3 * g + 2)) (length (edges triangles))
      (tri_edge_there triangles (3 * g) (omega (arith, last))) (side_there 1 (omega arith)) (side_there 2 (omega arith))

nothing_there : (v : List Float) (triangles ew : List ℕ) (er : List Float) (b : Bool) (o : Option Offered) → EdgeThere (edge_data v triangles) ew er o → EdgeThere (edge_data v triangles) ew er (cond b None o)
nothing_there v triangles ew er true o h = tt
nothing_there v triangles ew er false o h = h

-- the face ahead of a window of edge e into face g
module _ (v : List Float) (triangles : List ℕ) where
  abbrev ahead_of : ℕ → ℕ → ℕ → FaceAhead
  ahead_of e g c = record { l = len v triangles e; cx = coords_x v triangles e (vertex_at v c); cy = coords_y v triangles e g (vertex_at v c) }

  abbrev pub opposite_of : ℕ → ℕ → Opposite
  opposite_of e g = record { c = record { 0 = third triangles e g }; ahead = ahead_of e g (third triangles e g) }

module _ (v : List Float) (triangles : List ℕ) (n : ℕ) (ew : List ℕ) (er : List Float) (tw : List ℕ) (tr : List Float) where
  module _ (held : HoldsMesh v triangles n ew er tw tr) where
    coords_are : (e g : ℕ) → e < length (edges triangles) → g < length triangles / 3 → (p : Vec3) → coords_at v ew er tw tr e g p ≡ record { x = coords_x v triangles e p; y = coords_y v triangles e g p }
    coords_are e g l there p = coords_held v triangles ew er tw tr held.ends held.lengths held.sides held.normals e g l (last triangles n held.valid g there) p

    -- ---- a window of edge e into face g
    module _ (e g : ℕ) (l : e < length (edges triangles)) (there : g < length triangles / 3) where
      ahead_held : (c : ℕ) → ahead_at v ew er tw tr e g c ≡ ahead_of v triangles e g c
      unfolding ahead_at
      ahead_held c = let P = coords_are e g l there (vertex_at v c) in λ i. record { l = held.lengths.length_is e l i; cx = (P i).x; cy = (P i).y }

      pub propagate_held : (o : Opposite) → o ≡ opposite_of v triangles e g → (b0 b1 : Float) (src : Src) (k : ℕ) → propagate_offer_at ew er tw o e g b0 b1 src k ≡ propagate_offer v triangles e g b0 b1 src k
      unfolding propagate_offer_at propagate_offer
      propagate_held o O b0 b1 src k =
          let w : Bounds = record { b0 = b0; b1 = b1 } in
          let side : Side = side_number k in
          let c : ℕ = third triangles e g in
          let ne : ℕ = edge_between triangles g (side_end side (get_or (edges triangles) e no_edge)) c in
          let m : ne < length (edges triangles) = next_there triangles n held.valid g there (side_end side (get_or (edges triangles) e no_edge)) c in
          let E : edge_at ew e ≡ get_or (edges triangles) e no_edge = edge_held triangles ew held.ends e l in
          let N : edge_between_at ew tw g (side_end side (edge_at ew e)) o.c.0 ≡ ne =
          (λ i. edge_between_at ew tw g (side_end side (E i)) (O i).c.0) ∙ between_held triangles tw held.sides g (last triangles n held.valid g there) ew held.ends (side_end side (get_or (edges triangles) e no_edge)) c in
          let next = edge_held triangles ew held.ends ne m in
          let beyond = other_held triangles ew held.faces ne m g in
          (λ i. offered (N i) (other_at ew (N i) g) true (propagate_of src w (O i).ahead side (next_edge_at ew er e (N i))))
          ∙ (λ i. offered ne (beyond i) true (propagate_of src w (ahead_of v triangles e g c) side (next_edge_of (E i) (next i) (held.lengths.length_is ne m i))))

    pub opposite_held : (e : EdgeId) (g : FaceId) → e.0 < length (edges triangles) → g.0 < length triangles / 3 → (b0 b1 : Float) (src : Src) → opposite_at v triangles ew er tw tr (Window e g b0 b1 src) ≡ opposite_of v triangles e.0 g.0
    unfolding opposite_at
    opposite_held e g l there b0 b1 src =
        let c : ℕ = third triangles e.0 g.0 in
        let C : third_at triangles ew e.0 g.0 ≡ c = third_held triangles ew held.ends e.0 g.0 l in
        let A : ahead_at v ew er tw tr e.0 g.0 (third_at triangles ew e.0 g.0) ≡ ahead_of v triangles e.0 g.0 c = (λ i. ahead_at v ew er tw tr e.0 g.0 (C i)) ∙ ahead_held e.0 g.0 l there c in
        λ i. record { c = record { 0 = C i }; ahead = A i }

    -- ---- a vertex, on side k of face g
    pub emit_held : (g : ℕ) → g < length triangles / 3 → (k : ℕ) → k < 3 → (vx : ℕ) (d : Float) → emit_offer_at v ew er tw tr g k vx d ≡ emit_offer v triangles g k vx d
    unfolding emit_offer_at emit_offer
    emit_held g there k q vx d =
        let e : ℕ = tri_edge triangles (3 * g + k) in
        let p : Vec3 = vertex_at v vx in
        let l : e < length (edges triangles) = side_there triangles n held.valid g there k q in
        let S : side_in tw g k ≡ e = side_held triangles tw held.sides g (last triangles n held.valid g there) k q in
        let P = coords_are e g l there p in
        let E = edge_held triangles ew held.ends e l in
        let beyond = other_held triangles ew held.faces e l g in
        (λ i. let z = S i in cond (at_end vx (edge_at ew z)) None (offered z (other_at ew z g) true (emit_of (coords_at v ew er tw tr z g p).x (coords_at v ew er tw tr z g p).y (length_at er z) d)))
        ∙ (λ i. cond (at_end vx (E i)) None (offered e (beyond i) true (emit_of (P i).x (P i).y (held.lengths.length_is e l i) d)))

  -- ---- what it is offered to
  module _ (m : MeshIn v triangles n ew er tw tr) where
    pub propagate_there : (e g : ℕ) → g < length triangles / 3 → (b0 b1 : Float) (src : Src) (k : ℕ) → EdgeThere (edge_data v triangles) ew er (propagate_offer v triangles e g b0 b1 src k)
    unfolding propagate_offer
    propagate_there e g there b0 b1 src k =
        let c : ℕ = third triangles e g in
        let ne : ℕ = edge_between triangles g (side_end (side_number k) (get_or (edges triangles) e no_edge)) c in
        offered_there v triangles n ew er tw tr m ne (next_there triangles n m.mesh.valid g there (side_end (side_number k) (get_or (edges triangles) e no_edge)) c) (other triangles ne g) true
        (propagate_of src (record { b0 = b0; b1 = b1 }) (record { l = len v triangles e; cx = coords_x v triangles e (vertex_at v c); cy = coords_y v triangles e g (vertex_at v c) }) (side_number k)
        (next_edge_of (get_or (edges triangles) e no_edge) (get_or (edges triangles) ne no_edge) (len v triangles ne)))

    pub emit_there : (g : ℕ) → g < length triangles / 3 → (k : ℕ) → k < 3 → (vx : ℕ) (d : Float) → EdgeThere (edge_data v triangles) ew er (emit_offer v triangles g k vx d)
    unfolding emit_offer
    emit_there g there k q vx d =
        let e : ℕ = tri_edge triangles (3 * g + k) in
        nothing_there v triangles ew er (at_end vx (get_or (edges triangles) e no_edge))
        (offered e (other triangles e g) true (emit_of (coords_x v triangles e (vertex_at v vx)) (coords_y v triangles e g (vertex_at v vx)) (len v triangles e) d))
        (offered_there v triangles n ew er tw tr m e (side_there triangles n m.mesh.valid g there k q) (other triangles e g) true (emit_of (coords_x v triangles e (vertex_at v vx)) (coords_y v triangles e g (vertex_at v vx)) (len v triangles e) d))
