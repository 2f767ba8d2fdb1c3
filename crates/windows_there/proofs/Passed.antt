-- What a window passes on and what a vertex emits stands on edges of the mesh and goes into a face of its edge, or into none: spread_into. Assumes nothing.
use Rattle.std.specs.declared.option.Option.{Option}
use Rattle.std.specs.declared.option.Option.TheVariants.{None}
use Prim.Native.Nat.{ℕ, ◌+◌, ◌*◌, ◌/◌, ◌<◌}
use mathlib.Core.Bool.{Bool, true, false, cond}
use mathlib.Core.List.{List}
use lib.Ieee.{Float}
use lib.ListN.{length, get_or}
use Rattle.job_checks.specs.Edge.{vertex_at}
use Rattle.job_checks.specs.Sound.{ValidTriangles}
use Rattle.topology.specs.Edges.{no_edge, edges, tri_edge, other, third, edge_between, vertex_faces}
use Rattle.topology.specs.Frames.{len, coords_x, coords_y}
use Rattle.source_inserts.proofs.laws_of_mesh_readers.Round.{round_there}
use Rattle.source.specs.declared.Src.{Src}
use Rattle.spread_offers.specs.of_propagation.declared.FaceAhead.{FaceAhead}
use Rattle.spread_offers.specs.of_propagation.declared.NextEdge.{NextEdge}
use Rattle.spread_offers.specs.of_propagation.Propagate.{propagate_of, emit_of}
use Rattle.pop.specs.of_better.Claim.{All}
use Rattle.spread_offers.specs.of_offers.declared.Offered.{Offered}
use Rattle.spread_offers.specs.of_offers.Offers.{offer_list}
use Rattle.spread_offers.specs.of_offers.Each.{each_of}
use Rattle.spread_offers.proofs.laws_of_offers.Each.{each_all}
use Rattle.spread_offers.specs.of_source_offers.Offering.{offered}
use Rattle.spread_offers.specs.declared.Spread.{Spread}
use Rattle.spread_offers.specs.declared.Spread.TheVariants.{Window, Vertex}
use Rattle.spread_offers.specs.Offering.{side_number, side_end, next_edge_of, at_end, propagate_offer, emit_offer}
use Rattle.spread_offers.specs.Spreading.{propagate_candidates, emit_candidates, spread_candidates, SpreadOf}
use Rattle.spread_offers.proofs.Held.{side_there, next_there}
use Rattle.windows_there.specs.There.{GoesInto, CandidateThere}
use Rattle.windows_there.proofs.Sides.{other_into, offered_into}

module _ (v : List Float) (triangles : List ℕ) (n : ℕ) (valid : ValidTriangles triangles n) where
  abbrev Into : Option Offered → Type 0
  Into o = All (CandidateThere (GoesInto triangles)) (offer_list o)

  nothing_into : (b : Bool) (o : Option Offered) → Into o → Into (cond b None o)
  nothing_into true o h = tt
  nothing_into false o h = h

  propagate_into : (e g : ℕ) → g < length triangles / 3 → (b0 b1 : Float) (src : Src) (k : ℕ) → Into (propagate_offer v triangles e g b0 b1 src k)
  unfolding propagate_offer
  propagate_into e g there b0 b1 src k =
      let ab = get_or (edges triangles) e no_edge in
      let c : ℕ = third triangles e g in
      let ahead : FaceAhead = record { l = len v triangles e; cx = coords_x v triangles e (vertex_at v c); cy = coords_y v triangles e g (vertex_at v c) } in
      let ne : ℕ = edge_between triangles g (side_end (side_number k) ab) c in
      let next : NextEdge = next_edge_of ab (get_or (edges triangles) ne no_edge) (len v triangles ne) in
      offered_into (GoesInto triangles) ne (other triangles ne g) (other_into triangles n valid ne (next_there triangles n valid g there (side_end (side_number k) ab) c) g) true
      (propagate_of src (record { b0 = b0; b1 = b1 }) ahead (side_number k) next)

  emit_into : (g : ℕ) → g < length triangles / 3 → (k : ℕ) → k < 3 → (vx : ℕ) (d : Float) → Into (emit_offer v triangles g k vx d)
  unfolding emit_offer
  emit_into g there k q vx d =
      let e : ℕ = tri_edge triangles (3 * g + k) in
      let range = emit_of (coords_x v triangles e (vertex_at v vx)) (coords_y v triangles e g (vertex_at v vx)) (len v triangles e) d in
      nothing_into (at_end vx (get_or (edges triangles) e no_edge)) (offered e (other triangles e g) true range)
      (offered_into (GoesInto triangles) e (other triangles e g) (other_into triangles n valid e (side_there triangles n valid g there k q) g) true range)

  pub spread_into : (s : Spread) → SpreadOf triangles n s → All (CandidateThere (GoesInto triangles)) (spread_candidates v triangles s)
  unfolding spread_candidates propagate_candidates emit_candidates
  spread_into (Window e g b0 b1 src) of =
      each_all (CandidateThere (GoesInto triangles)) (λ k. offer_list (propagate_offer v triangles e.0 g.0 b0 b1 src k)) 2 (λ k l. propagate_into e.0 g.0 of.1 b0 b1 src k)
  spread_into (Vertex vx d) of =
      let faces = vertex_faces triangles vx.0 in
      each_all (CandidateThere (GoesInto triangles)) (λ fi. each_of (λ k. offer_list (emit_offer v triangles (get_or faces fi 0) k vx.0 d)) 3) (length faces)
      (λ fi l. each_all (CandidateThere (GoesInto triangles)) (λ k. offer_list (emit_offer v triangles (get_or faces fi 0) k vx.0 d)) 3
      (λ k q. emit_into (get_or faces fi 0) (round_there triangles vx.0 valid.whole fi l) k q vx.0 d))
