-- All that is offered as one numbered row, in the Rust's order: candidate i of a vertex is to side i % 3 of face i / 3 round it. Assumes nothing.
--     spread_all (the row is the Rust's list), opposite_is_held and spread_held (the face ahead and candidate i as they are read), spread_there (its edge is one of the mesh's)
use Rattle.std.specs.declared.option.Option.{Option}
use Prim.Native.Nat.{ℕ, ◌+◌, ◌*◌, ◌/◌, ◌%◌, ◌<◌, min}
use native.Mathlib.Omega.{arith}
use mathlib.Core.List.{List}
use mathlib.Core.Path.{◌≡◌, refl, ap, ◌∙◌}
use borrow.Author.Tests.{lt-ltb}
use lib.ListN.{length, get_or}
use lib.Ieee.{Float}
use Rattle.float64.specs.Scalar.{zero64}
use Rattle.job_checks.specs.Sound.{ValidTriangles}
use Rattle.topology.specs.Edges.{vertex_faces}
use Rattle.source_offers.specs.of_mesh_readers.Held.{HoldsMesh, HoldsRound}
use Rattle.source_offers.specs.of_mesh_readers.Readers.{range_at, degree_at, round_at}
use Rattle.source_offers.proofs.laws_of_mesh_readers.Held.{range_held, degree_held, round_held}
use Rattle.source_offers.proofs.laws_of_mesh_readers.Round.{few_round, round_there}
use Rattle.source_offers.specs.of_trim_model.Model.{Candidate}
use Rattle.source_offers.specs.of_offers.declared.Offered.{Offered}
use Rattle.source_offers.specs.of_offers.Offers.{offer_list, EdgeThere}
use Rattle.source_offers.specs.of_offers.Each.{each_of}
use Rattle.source_offers.specs.of_offers.Walks.{MeshIn, edge_data}
use Rattle.source_offers.proofs.laws_of_offers.Each.{each_same, by_blocks}
use Rattle.spread_offers.specs.declared.Opposite.{Opposite}
use Rattle.spread_offers.specs.declared.Spread.{Spread}
use Rattle.spread_offers.specs.declared.Spread.TheVariants.{Window, Vertex}
use Rattle.spread_offers.specs.Offering.{propagate_offer, emit_offer, emit_offer_at}
use Rattle.spread_offers.specs.Spreading.{propagate_candidates, emit_candidates, spread_candidates, SpreadOf, most_faces, spread_count_at, round_offer_at, opposite_at, spread_offer_at}
use Rattle.spread_offers.proofs.Held.{opposite_of, opposite_held, propagate_held, propagate_there, emit_held, emit_there}

-- candidate i of a mesh
unfoldable pub spread_nth : List Float → List ℕ → Spread → ℕ → Option Offered
spread_nth v triangles (Window e g b0 b1 src) i = propagate_offer v triangles e.0 g.0 b0 b1 src i
spread_nth v triangles (Vertex vx d) i = emit_offer v triangles (get_or (vertex_faces triangles vx.0) (i / 3) 0) (i % 3) vx.0 d

-- what both candidates of a window ask for, of a mesh
unfoldable pub spread_opposite : List Float → List ℕ → Spread → Opposite
spread_opposite v triangles (Window e g b0 b1 src) = opposite_of v triangles e.0 g.0
spread_opposite v triangles (Vertex vx d) = record { c = vx; ahead = record { l = zero64; cx = zero64; cy = zero64 } }

-- as many faces as a mesh can have round a vertex are counted
count_is : (triangles : List ℕ) (n : ℕ) → ValidTriangles triangles n → (vw round : List ℕ) → HoldsRound triangles n vw round → (k : ℕ) → k < n → min (degree_at vw k) most_faces ≡ length (vertex_faces triangles k)
count_is triangles n valid vw round rounds k l = omega (arith, degree_held triangles n vw round rounds k l, few_round triangles k, valid.whole, valid.few)

module _ (v : List Float) (triangles : List ℕ) (n : ℕ) (valid : ValidTriangles triangles n) (vw round : List ℕ) (rounds : HoldsRound triangles n vw round) where
  emit_all : (vx : ℕ) (d : Float) → each_of (λ i. offer_list (emit_offer v triangles (get_or (vertex_faces triangles vx) (i / 3) 0) (i % 3) vx d)) (3 * length (vertex_faces triangles vx)) ≡ emit_candidates v triangles vx d
  unfolding emit_candidates
  emit_all vx d =
      let faces = vertex_faces triangles vx in
      let turn : ℕ → ℕ → List Candidate = λ fi k. offer_list (emit_offer v triangles (get_or faces fi 0) k vx d) in
      by_blocks 3 (λ i. turn (i / 3) (i % 3)) (length faces)
      ∙ each_same (λ fi. each_of (λ k. turn ((3 * fi + k) / 3) ((3 * fi + k) % 3)) 3) (λ fi. each_of (turn fi) 3) (length faces)
      (λ fi l. each_same (λ k. turn ((3 * fi + k) / 3) ((3 * fi + k) % 3)) (turn fi) 3
      (λ k q.
      let a : (3 * fi + k) / 3 ≡ fi = omega (arith, q) in
      let b : (3 * fi + k) % 3 ≡ k = omega (arith, q) in
      λ t. turn (a t) (b t)))

  pub spread_all : (s : Spread) → SpreadOf triangles n s → each_of (λ i. offer_list (spread_nth v triangles s i)) (spread_count_at vw s) ≡ spread_candidates v triangles s
  unfolding spread_nth spread_count_at spread_candidates propagate_candidates
  spread_all (Window e g b0 b1 src) of = refl
  spread_all (Vertex vx d) of =
      ap (λ (c : ℕ). each_of (λ i. offer_list (emit_offer v triangles (get_or (vertex_faces triangles vx.0) (i / 3) 0) (i % 3) vx.0 d)) (3 * c)) (count_is triangles n valid vw round rounds vx.0 of)
      ∙ emit_all vx.0 d

  -- candidate i of a vertex has a face
  face_below : (k : ℕ) → k < n → (i : ℕ) → i < 3 * min (degree_at vw k) most_faces → i / 3 < length (vertex_faces triangles k)
  face_below k l i q = omega (arith, count_is triangles n valid vw round rounds k l, q)

module _ (v : List Float) (triangles : List ℕ) (n : ℕ) (ew : List ℕ) (er : List Float) (tw : List ℕ) (tr : List Float) (vw round : List ℕ) (rounds : HoldsRound triangles n vw round) where
  module _ (held : HoldsMesh v triangles n ew er tw tr) where
    round_held_of : (vx : ℕ) → vx < n → (d : Float) (i : ℕ) → i < 3 * min (degree_at vw vx) most_faces → round_offer_at v ew er tw tr vw round vx d i ≡ emit_offer v triangles (get_or (vertex_faces triangles vx) (i / 3) 0) (i % 3) vx d
    unfolding round_offer_at
    round_held_of vx l d i q =
        let m : i / 3 < length (vertex_faces triangles vx) = face_below v triangles n held.valid vw round rounds vx l i q in
        let R : round_at round ((range_at vw vx).start + i / 3) ≡ get_or (vertex_faces triangles vx) (i / 3) 0 = (λ t. round_at round ((range_held triangles n vw round rounds vx l t).start + i / 3)) ∙ round_held triangles n vw round rounds vx l (i / 3) m in
        rw (lt-ltb (i / 3) (degree_at vw vx) (omega (arith, degree_held triangles n vw round rounds vx l, m)))
        ((λ t. emit_offer_at v ew er tw tr (R t) (i % 3) vx d)
        ∙ emit_held v triangles n ew er tw tr held (get_or (vertex_faces triangles vx) (i / 3) 0) (round_there triangles vx held.valid.whole (i / 3) m) (i % 3) (omega arith) vx d)

    pub opposite_is_held : (s : Spread) → SpreadOf triangles n s → opposite_at v triangles ew er tw tr s ≡ spread_opposite v triangles s
    unfolding opposite_at spread_opposite
    opposite_is_held (Window e g b0 b1 src) of = opposite_held v triangles n ew er tw tr held e g of.0 of.1 b0 b1 src
    opposite_is_held (Vertex vx d) of = refl

    pub spread_held : (s : Spread) → SpreadOf triangles n s → (o : Opposite) → o ≡ spread_opposite v triangles s → (i : ℕ) → i < spread_count_at vw s → spread_offer_at v ew er tw tr vw round o s i ≡ spread_nth v triangles s i
    unfolding spread_count_at spread_offer_at spread_nth spread_opposite
    spread_held (Window e g b0 b1 src) of o O i q = propagate_held v triangles n ew er tw tr held e.0 g.0 of.0 of.1 o O b0 b1 src i
    spread_held (Vertex vx d) of o O i q = round_held_of vx.0 of d i q

  pub spread_there : MeshIn v triangles n ew er tw tr → (s : Spread) → SpreadOf triangles n s → (i : ℕ) → i < spread_count_at vw s → EdgeThere (edge_data v triangles) ew er (spread_nth v triangles s i)
  unfolding spread_count_at spread_nth
  spread_there m (Window e g b0 b1 src) of i q = propagate_there v triangles n ew er tw tr m e.0 g.0 of.1 b0 b1 src i
  spread_there m (Vertex vx d) of i q =
      emit_there v triangles n ew er tw tr m (get_or (vertex_faces triangles vx.0) (i / 3) 0)
      (round_there triangles vx.0 m.mesh.valid.whole (i / 3) (face_below v triangles n m.mesh.valid vw round rounds vx.0 of i q)) (i % 3) (omega arith) vx.0 d
