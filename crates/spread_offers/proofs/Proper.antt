-- What a window passes on and what a vertex emits is proper where it is admitted, as demand 3 asks, in a mesh whose edges have the lengths of a checked one. Assumes nothing.
--     propagate_proper, emit_proper (one candidate), spread_proper (all)
use Rattle.std.specs.declared.option.Option.{Option}
use Rattle.std.specs.declared.option.Option.TheVariants.{None}
use Prim.Native.Nat.{ℕ, ◌+◌, ◌*◌, ◌/◌, ◌<◌}
use mathlib.Core.Bool.{Bool, true, false, cond}
use mathlib.Core.List.{List}
use lib.ListN.{length, get_or}
use lib.Ieee.{Float}
use Rattle.job_checks.specs.Edge.{vertex_at}
use Rattle.job_checks.specs.Sound.{ValidTriangles}
use Rattle.topology.specs.Edges.{no_edge, edges, tri_edge, other, third, edge_between, vertex_faces}
use Rattle.topology.specs.Frames.{len, coords_x, coords_y}
use Rattle.source_offers.specs.of_mesh_laws.Bounds.{EdgeLength}
use Rattle.source_offers.proofs.laws_of_mesh_readers.Round.{round_there}
use Rattle.source.specs.declared.Src.{Src}
use Rattle.propagation.specs.declared.FaceAhead.{FaceAhead}
use Rattle.propagation.specs.declared.NextEdge.{NextEdge}
use Rattle.propagation.specs.Propagate.{propagate_of, emit_of}
use Rattle.propagation.proofs.Ends.{propagate_on, emit_on}
use Rattle.source_offers.specs.of_better.Claim.{All}
use Rattle.source_offers.specs.of_trim_model.Model.{Candidate}
use Rattle.source_offers.specs.of_trim_model.Claim.{AdmittedProper}
use Rattle.source_offers.specs.of_offers.declared.Offered.{Offered}
use Rattle.source_offers.specs.of_offers.Offers.{offer_list}
use Rattle.source_offers.specs.of_offers.Each.{each_of}
use Rattle.source_offers.proofs.laws_of_offers.Each.{each_all}
use Rattle.source_offers.specs.Offering.{offered}
use Rattle.source_offers.proofs.Proper.{range_proper}
use Rattle.spread_offers.specs.declared.Spread.{Spread}
use Rattle.spread_offers.specs.declared.Spread.TheVariants.{Window, Vertex}
use Rattle.spread_offers.specs.Offering.{side_number, side_end, next_edge_of, at_end, propagate_offer, emit_offer}
use Rattle.spread_offers.specs.Spreading.{propagate_candidates, emit_candidates, spread_candidates, SpreadOf}
use Rattle.spread_offers.proofs.Held.{side_there, next_there}

module _ (limit : Float) (v : List Float) (triangles : List ℕ) (n : ℕ) (valid : ValidTriangles triangles n) (long : (e : ℕ) → e < length (edges triangles) → EdgeLength (len v triangles e)) where
  abbrev Fine : List Candidate → Type 0
  Fine = All (AdmittedProper limit (len v triangles))

  nothing_fine : (b : Bool) (o : Option Offered) → Fine (offer_list o) → Fine (offer_list (cond b None o))
  nothing_fine true o h = tt
  nothing_fine false o h = h

  pub propagate_proper : (e g : ℕ) → g < length triangles / 3 → (b0 b1 : Float) (src : Src) (k : ℕ) → Fine (offer_list (propagate_offer v triangles e g b0 b1 src k))
  unfolding propagate_offer next_edge_of
  propagate_proper e g there b0 b1 src k =
      let ab = get_or (edges triangles) e no_edge in
      let c : ℕ = third triangles e g in
      let ahead : FaceAhead = record { l = len v triangles e; cx = coords_x v triangles e (vertex_at v c); cy = coords_y v triangles e g (vertex_at v c) } in
      let ne : ℕ = edge_between triangles g (side_end (side_number k) ab) c in
      let next : NextEdge = next_edge_of ab (get_or (edges triangles) ne no_edge) (len v triangles ne) in
      let checked : EdgeLength (len v triangles ne) = long ne (next_there triangles n valid g there (side_end (side_number k) ab) c) in
      range_proper limit (len v triangles) ne (other triangles ne g) true checked (propagate_of src (record { b0 = b0; b1 = b1 }) ahead (side_number k) next)
      (propagate_on src (record { b0 = b0; b1 = b1 }) ahead (side_number k) next checked.number checked.double)

  pub emit_proper : (g : ℕ) → g < length triangles / 3 → (k : ℕ) → k < 3 → (vx : ℕ) (d : Float) → Fine (offer_list (emit_offer v triangles g k vx d))
  unfolding emit_offer
  emit_proper g there k q vx d =
      let e : ℕ = tri_edge triangles (3 * g + k) in
      let x = coords_x v triangles e (vertex_at v vx) in
      let y = coords_y v triangles e g (vertex_at v vx) in
      let checked : EdgeLength (len v triangles e) = long e (side_there triangles n valid g there k q) in
      nothing_fine (at_end vx (get_or (edges triangles) e no_edge)) (offered e (other triangles e g) true (emit_of x y (len v triangles e) d))
      (range_proper limit (len v triangles) e (other triangles e g) true checked (emit_of x y (len v triangles e) d) (emit_on (len v triangles e) checked.number checked.double x y d))

  pub spread_proper : (s : Spread) → SpreadOf triangles n s → Fine (spread_candidates v triangles s)
  unfolding spread_candidates propagate_candidates emit_candidates
  spread_proper (Window e g b0 b1 src) of =
      each_all (AdmittedProper limit (len v triangles)) (λ k. offer_list (propagate_offer v triangles e.0 g.0 b0 b1 src k)) 2 (λ k l. propagate_proper e.0 g.0 of.1 b0 b1 src k)
  spread_proper (Vertex vx d) of =
      let faces = vertex_faces triangles vx.0 in
      each_all (AdmittedProper limit (len v triangles)) (λ fi. each_of (λ k. offer_list (emit_offer v triangles (get_or faces fi 0) k vx.0 d)) 3) (length faces)
      (λ fi l. each_all (AdmittedProper limit (len v triangles)) (λ k. offer_list (emit_offer v triangles (get_or faces fi 0) k vx.0 d)) 3
      (λ k q. emit_proper (get_or faces fi 0) (round_there triangles vx.0 valid.whole fi l) k q vx.0 d))
