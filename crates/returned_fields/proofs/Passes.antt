-- A field with the laws of one that a job returned passes refusal 20: passes_20. Assumes nothing.
use Prim.Native.Nat.{ℕ, ◌*◌, ◌≤◌, ◌<◌, min}
use native.Mathlib.Omega.{arith}
use native.Mathlib.Decide.{dec_le}
use mathlib.Core.Bool.{false, not}
use mathlib.Core.List.{List}
use mathlib.Core.Logic.{inl, inr}
use mathlib.Core.Path.{◌≡◌, ap, ◌∙◌}
use borrow.Author.Tests.{le-ltb, lt-leb, eq-eqb}
use lib.Dec.{ltb}
use lib.ListN.{length}
use Rattle.layout.specs.Layout.{words_per_edge, reals_per_edge, words_per_triangle, reals_per_triangle, reals_per_vertex}
use Rattle.buffers.specs.Slots.{slots_of}
use Rattle.windows.specs.Windows.{capacity_of, edge_stored, into_of, link_of}
use Rattle.chains.specs.Chains.{head_of}
use Rattle.job_checks.specs.Refusals.{above_one}
use Rattle.job_checks.proofs.Any.{none_all}
use Rattle.job_checks.proofs.Tests.{not_above_one}
use Rattle.queries.specs.of_frames.Stored.{low_at, high_at, face_at}
use Rattle.queries.specs.of_mesh_readers.Readers.{side_in}
use Rattle.queries.specs.of_trim_model.Windows.{Window}
use Rattle.queries.specs.of_face_entries.Buffers.{entry_capacity, first_entry_of, last_entry_of}
use Rattle.queries.specs.of_face_entries.Entries.{FaceEntry}
use Rattle.computed.specs.declared.Computed.TheVariants.{Field as isField}
use Rattle.computed.specs.declared.Field.{Field}
use Rattle.queries.specs.of_field_check.FieldCheck.{JobSlices, FieldSlices, too_few_slots, records_differ, counts_differ, meets_refusal, face_outside, edge_outside, triangle_outside, window_outside, points_outside, lists_unsound, field_unsound, meets20}
use Rattle.queries.proofs.laws_of_field_check.Tests.{face_inside, face_none}
use Rattle.returned_fields.specs.Held.{FaceThere, HeldJob, HeldSlots, HeldNumbers, HeldField}
use Rattle.returned_fields.proofs.Lists.{neither, windows_sound, entries_sound}

-- ---- the counts
enough_slots : (n : Field) (b : FieldSlices) → HeldSlots n b → too_few_slots n b ≡ false
unfolding too_few_slots
enough_slots n b H =
    neither (le-ltb (min (slots_of (length b.edge_words_held) words_per_edge) (slots_of (length b.edge_reals_held) reals_per_edge)) n.edges H.edges)
    (neither (le-ltb (min (slots_of (length b.triangle_words_held) words_per_triangle) (slots_of (length b.triangle_reals) reals_per_triangle)) n.triangles H.triangles)
    (neither (le-ltb (slots_of (length b.vertex) reals_per_vertex) n.vertices H.vertices) (le-ltb (capacity_of (length b.words) (length b.reals)) n.windows H.windows)))

same_records : (elements stride count : ℕ) → elements ≡ stride * count → records_differ elements stride count ≡ false
unfolding records_differ
same_records elements stride count h = ap not (eq-eqb elements (stride * count) h)

module _ (n : Field) (j : JobSlices) (H : HeldJob n j) where
  same_counts : counts_differ n j ≡ false
  unfolding counts_differ
  same_counts =
      let k = H.kinds in
      let f = H.faces in
      neither (same_records (length j.vertices) _ n.vertices H.vertices)
      (neither (same_records (length j.triangles) _ n.triangles H.triangles)
      (neither (same_records (length j.kinds) 1 n.pieces (omega (arith, k)))
      (neither (same_records (length j.faces) 1 n.pieces (omega (arith, f))) (same_records (length j.coords) _ n.pieces H.coords))))

  -- ---- 2 to 7
  meets_none : meets_refusal j ≡ false
  unfolding meets_refusal
  meets_none =
      neither (ap (ltb 0) H.mesh_passed ∙ le-ltb 0 0 (omega arith))
      (neither H.regular (neither (ap (ltb 0) H.pieces_passed ∙ le-ltb 0 0 (omega arith))
      (none_all (above_one j.kinds) (length j.kinds) (λ i l. not_above_one j.kinds i (H.kinds_low i l)))))

-- ---- numbers
face_there : (triangles g : ℕ) → FaceThere triangles g → face_outside triangles g ≡ false
face_there triangles g (inl h) = face_inside triangles g h
face_there triangles g (inr e) = go (dec_le triangles g) where
  go : Dec (triangles ≤ g) → face_outside triangles g ≡ false
  go (yes h) = face_none triangles g h e
  go (no h) = face_inside triangles g (omega (arith, h))

module _ (n : Field) (b : FieldSlices) (H : HeldNumbers n b) where
  edge_inside : (e : ℕ) → e < n.edges → edge_outside n b.edge_words_held e ≡ false
  unfolding edge_outside
  edge_inside e l =
      let w = b.edge_words_held in
      neither (lt-leb n.vertices (low_at w e) (H.ends e l).0) (neither (lt-leb n.vertices (high_at w e) (H.ends e l).1)
      (neither (face_there n.triangles (face_at w e 0) (H.faces e 0 l (omega arith))) (neither (face_there n.triangles (face_at w e 1) (H.faces e 1 l (omega arith))) (le-ltb n.windows (head_of w e) (H.heads e l)))))

  triangle_inside : (f : ℕ) → f < n.triangles → triangle_outside n (entry_capacity (length b.entry_words_held)) b.triangle_words_held f ≡ false
  unfolding triangle_outside
  triangle_inside f l =
      let w = b.triangle_words_held in
      let most = entry_capacity (length b.entry_words_held) in
      neither (lt-leb n.edges (side_in w f 0) (H.sides f 0 l (omega arith))) (neither (lt-leb n.edges (side_in w f 1) (H.sides f 1 l (omega arith))) (neither (lt-leb n.edges (side_in w f 2) (H.sides f 2 l (omega arith)))
      (neither (le-ltb most (first_entry_of w f) (H.firsts f l)) (le-ltb most (last_entry_of w f) (H.lasts f l)))))

  window_inside : (i : ℕ) → i < n.windows → window_outside n b.words i ≡ false
  unfolding window_outside
  window_inside i l =
      let w = b.words in
      neither (lt-leb n.edges (edge_stored w i) (H.window_edges i l)) (neither (face_there n.triangles (into_of w i) (H.window_faces i l)) (le-ltb n.windows (link_of w i) (H.window_links i l)))

  none_outside : points_outside n b ≡ false
  unfolding points_outside
  none_outside =
      neither (none_all (edge_outside n b.edge_words_held) n.edges edge_inside)
      (neither (none_all (triangle_outside n (entry_capacity (length b.entry_words_held)) b.triangle_words_held) n.triangles triangle_inside) (none_all (window_outside n b.words) n.windows window_inside))

-- ---- the whole
module _ (n : Field) (j : JobSlices) (b : FieldSlices) (live : ℕ → List Window) (xs : List FaceEntry) (H : HeldField n j b live xs) where
  pub passes_20 : field_unsound n j b ≡ false
  unfolding field_unsound lists_unsound
  passes_20 =
      neither (enough_slots n b H.slots) (neither (same_counts n j H.job) (neither (meets_none n j H.job)
      (neither (none_outside n b H.numbers) (neither (windows_sound n b live H.windows) (entries_sound n b xs H.entries)))))

  pub answered : meets20 (isField n) j b ≡ false
  unfolding meets20
  answered = passes_20
