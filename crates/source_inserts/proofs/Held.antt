-- Where the buffers hold a job, its sources are read as the Rust has them, and each makes what the Rust's does: source_is, source_inserts_held.
-- Other buffers that hold the job may be read for each one that a source makes. Assumes nothing.
use Prim.Native.Nat.{ℕ, zero, suc, ◌+◌, ◌-◌, ◌*◌, ◌/◌, ◌%◌, ◌<◌, ◌≤◌}
use mathlib.Core.Path.{◌≡◌, refl, sym, ap, ◌∙◌}
use mathlib.Core.Bool.{Bool, true, false, not, ◌&&◌, ◌||◌}
use mathlib.Core.List.{List, [], ◌∷◌}
use native.Mathlib.Omega.{arith}
use native.Mathlib.Numerals.{add-one}
use borrow.Author.Tests.{ne_eqb, lt-ltb, eqb-true}
use lib.Dec.{eqb, ltb}
use lib.Ieee.{Float}
use lib.ListN.{length, get_or}
use Rattle.layout.specs.Layout.{reals_per_piece}
use Rattle.vec3.specs.declared.Vec3.{Vec3}
use Rattle.buffers.specs.declared.FaceId.{FaceId}
use Rattle.topology.specs.Edges.{no_face}
use Rattle.source_offers.specs.of_mesh_readers.Held.{HoldsMesh}
use Rattle.wedge_refusal.specs.of_source_windows.declared.Normal.TheVariants.{Left, Right}
use Rattle.source_offers.specs.Offering.{point_offer}
use Rattle.source_offers.proofs.Held.{segment_held, point_held}
use Rattle.wedge_refusal.specs.of_carriers.declared.CarrierSimplex.{CarrierSimplex}
use Rattle.wedge_refusal.specs.of_carriers.Carrier.{carrier_of, faces_of, InMesh, carrier_count_at, carrier_face_at, other_carrier}
use Rattle.wedge_refusal.proofs.laws_of_carriers.Held.{carrier_held, carrier_there, count_is}
use Rattle.wedge_refusal.proofs.laws_of_carriers.Faces.{carrier_faces, is_other, face_is, other_is, faces_few}
use Rattle.face_entries.specs.declared.Part.{Part}
use Rattle.face_entries.specs.declared.Part.TheVariants.{EndA, EndB, Whole}
use Rattle.face_entries.specs.Buffers.{part_of_number}
use Rattle.wedge_refusal.specs.of_piece_ends.Ends.{end_point, is_end, first_of_bits, ends_with_bits}
use Rattle.wedge_refusal.specs.of_piece_ends.Table.{link_to}
use Rattle.wedge_refusal.specs.of_piece_ends.Walk.{HoldsTable, first_link_at, follows_at, is_first_at, leads_at}
use Rattle.wedge_refusal.specs.of_piece_ends.Directions.{piece_reals_of}
use Rattle.wedge_refusal.proofs.laws_of_piece_ends.Held.{is_first_held, first_held}
use Rattle.wedge_refusal.proofs.laws_of_piece_ends.Passing.{both}
use Rattle.wedge_refusal.specs.Held.{HoldsJob}
use Rattle.point_wedge.specs.Wedge.{bounds_in, bounds_at}
use Rattle.point_wedge.proofs.Held.{bounds_held}
use Rattle.source_inserts.specs.declared.Insert.{Insert}
use Rattle.source_inserts.specs.declared.Insert.TheVariants.{Offer}
use Rattle.source_inserts.specs.declared.Source.{Source}
use Rattle.source_inserts.specs.declared.Source.TheVariants.{Absent, Point, Segment}
use Rattle.source_inserts.specs.Inserts.{entry_of, carrier_inserts, point_inserts, segment_inserts, end_inserts, whole_inserts, part_inserts, source_inserts, SourceMakes, IsSource}
use Rattle.source_inserts.specs.Read.{segment_source_at, normal_of_number, end_source_at, job_source_at, segment_insert_at, point_side_at, point_insert_at, insert_at, insert_count_at}
use Rattle.source_offers.specs.of_offers.Each.{each_of}
use Rattle.source_offers.proofs.laws_of_offers.Each.{each_same, by_blocks}

-- a piece has a second end where it is no point
second_end_lem : (kinds : List ℕ) (i : ℕ) → i < length kinds → is_end kinds (2 * i + 1) ≡ not (eqb (get_or kinds i 0) 0)
unfolding is_end
second_end_lem kinds i l =
    let a : (2 * i + 1) / 2 ≡ i = omega arith in
    let b : (2 * i + 1) % 2 ≡ 1 = omega arith in
    (λ t. ltb (a t) (length kinds) && (eqb (b t) 0 || not (eqb (get_or kinds (a t) 0) 0))) ∙ rw (lt-ltb i (length kinds) l) refl

-- an end that is the first of its bits is what their first link leads to
first_is : (kinds : List ℕ) (coords : List Float) (words : List ℕ) → HoldsTable kinds coords words → (e : ℕ) → first_of_bits kinds coords e ≡ true → e + 1 ≡ link_to (ends_with_bits kinds coords (end_point coords e))
unfolding is_first_at leads_at
first_is kinds coords words table e h =
    let leads : is_first_at kinds coords words (length kinds) e ≡ true = is_first_held kinds coords words table e ∙ h in
    add-one e ∙ (sym (eqb-true (first_link_at coords words (length kinds) (end_point coords e)) (suc e) (both (not (follows_at kinds coords e)) _ (both (is_end kinds e) _ leads).1).1) ∙ first_held kinds coords words table (end_point coords e))

module _ (v : List Float) (triangles : List ℕ) (n : ℕ) (edge_words : List ℕ) (edge_reals : List Float) (triangle_words : List ℕ) (triangleReals : List Float) (vertex_words round kinds faces : List ℕ) (coords : List Float) (words : List ℕ)
    (held : HoldsJob v triangles n edge_words edge_reals triangle_words triangleReals vertex_words round kinds faces coords words) where
  -- ---- a source
  abbrev Made : List Insert → Source → Type 0
  Made xs s = SourceMakes v triangles kinds faces coords n xs s

  end_made : (i e : ℕ) (part : Part) → i < length kinds → e / 2 ≡ i → (b : Bool) → first_of_bits kinds coords e ≡ b
      → Made (end_inserts v triangles kinds faces coords i e part) (end_source_at v edge_words edge_reals triangle_words triangleReals kinds faces coords words (length kinds) e part)
  unfolding end_inserts end_source_at SourceMakes
  end_made i e part l q false h = rw (is_first_held kinds coords words held.table e, h) refl
  end_made i e part l q true h =
      let there : get_or faces (e / 2) 0 < length triangles / 3 = held.face_there (e / 2) (omega (arith, l, q)) in
      let f : ℕ = get_or faces (e / 2) 0 in
      let m : HoldsMesh v triangles n edge_words edge_reals triangle_words triangleReals = held.mesh in
      rw (is_first_held kinds coords words held.table e, h) (
        (λ t. point_inserts v triangles kinds faces coords (get_or faces (sym q t) 0) (end_point coords e) (sym q t) part),
        (
          there,
          (
            (
              carrier_held triangles n m.valid edge_words triangle_words m.ends m.sides f there v edge_reals triangleReals m.lengths m.normals (end_point coords e),
              carrier_there triangles n m.valid edge_words triangle_words m.ends m.sides f there v edge_reals triangleReals (end_point coords e),
            ),
            first_is kinds coords words held.table e h,
          ),
        ),
      )

  whole_made : (i : ℕ) → i < length kinds → (b : Bool) → eqb (get_or kinds i 0) 0 ≡ b → Made (whole_inserts v triangles kinds faces coords i) (segment_source_at kinds faces coords i)
  unfolding whole_inserts segment_source_at SourceMakes
  whole_made i l true h = rw (second_end_lem kinds i l, h) refl
  whole_made i l false h = rw (second_end_lem kinds i l, h) (refl, held.face_there i l)

  part_made : (j k : ℕ) → j % 3 ≡ k → j / 3 < length kinds
      → Made (part_inserts v triangles kinds faces coords (j / 3) k) (job_source_at v edge_words edge_reals triangle_words triangleReals kinds faces coords words (length kinds) j)
  unfolding job_source_at part_inserts part_of_number
  part_made j zero q l =
      let z : 2 * (j / 3) + 0 ≡ 2 * (j / 3) = omega arith in
      rw q (rw z (end_made (j / 3) (2 * (j / 3)) EndA l (omega arith) (first_of_bits kinds coords (2 * (j / 3))) refl))
  part_made j (suc zero) q l = rw q (end_made (j / 3) (2 * (j / 3) + 1) EndB l (omega arith) (first_of_bits kinds coords (2 * (j / 3) + 1)) refl)
  part_made j (suc (suc zero)) q l = rw q (whole_made (j / 3) l (eqb (get_or kinds (j / 3) 0) 0) refl)
  part_made j (suc (suc (suc k))) q l = absurd (omega (arith, q))

  pub source_is : (j : ℕ) → j < 3 * length kinds → IsSource v triangles kinds faces coords n j (job_source_at v edge_words edge_reals triangle_words triangleReals kinds faces coords words (length kinds) j)
  unfolding source_inserts
  source_is j l = part_made j (j % 3) refl (omega (arith, l))

  -- ---- what it makes
  module _ (m : ℕ) (room : reals_per_piece * length kinds ≤ m) where
    abbrev made : Source → ℕ → Insert
    made s i = insert_at v edge_words edge_reals triangle_words triangleReals vertex_words round kinds faces coords words (piece_reals_of kinds coords m) (length kinds) s i

    -- a point p of face f
    module _ (f : FaceId) (p : Vec3) (piece : ℕ) (part : Part) (c : CarrierSimplex) (there : f.0 < length triangles / 3) (is : faces_of triangles f.0 c ≡ carrier_of v triangles f.0 p) (in_mesh : InMesh triangles n f.0 c)
        (first : ℕ) (is_first : first ≡ link_to (ends_with_bits kinds coords p)) where
      abbrev carriers : List ℕ
      carriers = carrier_of v triangles f.0 p

      abbrev carrier : ℕ → ℕ
      carrier i = carrier_face_at edge_words vertex_words round f.0 c i

      count_held : carrier_count_at edge_words vertex_words c ≡ length carriers
      count_held = count_is triangles n edge_words vertex_words round held.mesh.faces held.round_vertex f.0 c in_mesh ∙ ap length is

      carrier_is : (i : ℕ) → i < length carriers → carrier i ≡ get_or carriers i no_face
      carrier_is i l =
          face_is triangles n edge_words vertex_words round held.mesh.faces held.round_vertex f.0 c in_mesh i (omega (arith, l, ap length is)) ∙ ap (λ (fs : List ℕ). get_or fs i no_face) is

      abbrev offer_to : ℕ → ℕ → Insert
      offer_to g k = Offer (point_offer v triangles g k p (bounds_in v triangles kinds faces coords g k p carriers))

      side_held : (g k : ℕ) → g < length triangles / 3 → k < 3
          → Offer (point_side_at v edge_words edge_reals triangle_words triangleReals vertex_words round kinds faces coords words (piece_reals_of kinds coords m) (length kinds) f.0 p c first g k) ≡ offer_to g k
      unfolding point_side_at
      side_held g k l q =
          let h : ℕ = other_carrier g (carrier 0) (carrier 1) in
          let other : (a b : ℕ) → carriers ≡ a ∷ (b ∷ []) → h ≡ other_carrier g a b = λ a b two. other_is triangles n edge_words vertex_words round held.mesh.faces held.round_vertex f.0 c in_mesh g a b (is ∙ two) in
          let B : bounds_at v edge_words edge_reals triangle_words triangleReals kinds faces coords words (piece_reals_of kinds coords m) (length kinds) g k p (carrier_count_at edge_words vertex_words c) h first ≡ bounds_in v triangles kinds faces coords g k p carriers =
          ap (λ (count : ℕ). bounds_at v edge_words edge_reals triangle_words triangleReals kinds faces coords words (piece_reals_of kinds coords m) (length kinds) g k p count h first) count_held
          ∙ bounds_held v triangles n edge_words edge_reals triangle_words triangleReals held.mesh kinds faces coords words held.table m room p first is_first g l k q carriers h (is_other triangles n held.mesh.valid f.0 there v p g h other) in
          ap Offer (point_held v triangles n edge_words edge_reals triangle_words triangleReals held.mesh g l k q p _ ∙ ap (point_offer v triangles g k p) B)

      entry_at : (j : ℕ) → j < length carriers → made (Point f p piece part c first) (4 * j + 0) ≡ entry_of (get_or carriers j no_face) piece part
      unfolding insert_at point_insert_at
      entry_at j l =
          let a : (4 * j + 0) / 4 ≡ j = omega arith in
          let b : (4 * j + 0) % 4 ≡ 0 = omega arith in
          rw (a, b) (ap (λ (g : ℕ). entry_of g piece part) (carrier_is j l))

      side_at_lem : (j k : ℕ) → j < length carriers → k < 3 → made (Point f p piece part c first) (4 * j + suc k) ≡ offer_to (get_or carriers j no_face) k
      unfolding insert_at point_insert_at
      side_at_lem j k l q =
          let a : (4 * j + suc k) / 4 ≡ j = omega arith in
          let b : (4 * j + suc k) % 4 ≡ suc k = omega arith in
          let e : suc k - 1 ≡ k = omega arith in
          rw (a, b, ne_eqb (suc k) 0 (λ z. omega arith), carrier_is j l, e) (side_held (get_or carriers j no_face) k (carrier_faces triangles n held.mesh.valid f.0 there v p j l) q)

      four : (j : ℕ) → j < length carriers → each_of (λ (a : ℕ). made (Point f p piece part c first) (4 * j + a) ∷ []) 4 ≡ carrier_inserts v triangles kinds faces coords p piece part carriers (get_or carriers j no_face)
      unfolding each_of carrier_inserts
      four j l = λ t. entry_at j l t ∷ (side_at_lem j 0 l (omega arith) t ∷ (side_at_lem j 1 l (omega arith) t ∷ (side_at_lem j 2 l (omega arith) t ∷ [])))

      number_is : insert_count_at edge_words vertex_words (Point f p piece part c first) ≡ 4 * length carriers
      unfolding insert_count_at
      number_is = omega (arith, count_held, ap length is, faces_few triangles f.0 c, held.mesh.valid.few, held.mesh.valid.whole)

      point_made : each_of (λ (i : ℕ). made (Point f p piece part c first) i ∷ []) (insert_count_at edge_words vertex_words (Point f p piece part c first)) ≡ point_inserts v triangles kinds faces coords f.0 p piece part
      unfolding point_inserts
      point_made =
          ap (each_of (λ (i : ℕ). made (Point f p piece part c first) i ∷ [])) number_is
          ∙ (by_blocks 4 (λ (i : ℕ). made (Point f p piece part c first) i ∷ []) (length carriers)
          ∙ each_same (λ (j : ℕ). each_of (λ (a : ℕ). made (Point f p piece part c first) (4 * j + a) ∷ []) 4) (λ (j : ℕ). carrier_inserts v triangles kinds faces coords p piece part carriers (get_or carriers j no_face)) (length carriers) four)

    segment_made : (f : FaceId) (a b : Vec3) (piece : ℕ) → f.0 < length triangles / 3
        → each_of (λ (i : ℕ). made (Segment f a b piece) i ∷ []) (insert_count_at edge_words vertex_words (Segment f a b piece)) ≡ segment_inserts v triangles kinds faces coords f.0 a b piece
    unfolding each_of insert_count_at insert_at segment_insert_at normal_of_number segment_inserts
    segment_made f a b piece l =
        let side = segment_held v triangles n edge_words edge_reals triangle_words triangleReals held.mesh f.0 l in
        λ t. entry_of f.0 piece Whole
        ∷ (Offer (side 0 (omega arith) a b Left t) ∷ (Offer (side 0 (omega arith) a b Right t)
        ∷ (Offer (side 1 (omega arith) a b Left t) ∷ (Offer (side 1 (omega arith) a b Right t)
        ∷ (Offer (side 2 (omega arith) a b Left t) ∷ (Offer (side 2 (omega arith) a b Right t) ∷ []))))))

    pub source_inserts_held : (j : ℕ) (s : Source) → IsSource v triangles kinds faces coords n j s → each_of (λ (i : ℕ). made s i ∷ []) (insert_count_at edge_words vertex_words s) ≡ source_inserts v triangles kinds faces coords j
    unfolding SourceMakes each_of insert_count_at
    source_inserts_held j Absent h = sym h
    source_inserts_held j (Point f p piece part c first) h = point_made f p piece part c h.1.0 h.1.1.0.0 h.1.1.0.1 first h.1.1.1 ∙ sym h.0
    source_inserts_held j (Segment f a b piece) h = segment_made f a b piece h.1 ∙ sym h.0
