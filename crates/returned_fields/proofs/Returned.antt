-- A field that a job returned, with its job and buffers as they were left, passes refusal 20: returned_passes; and each query of it is the Rust's over its lists: returned_face, returned_edge, returned_vertex, returned_window. Assumes nothing.
use Prim.Native.Nat.{ℕ, ◌+◌, ◌*◌, ◌/◌, ◌%◌, ◌≤◌, ◌<◌, min}
use native.Mathlib.Omega.{arith}
use mathlib.Core.Bool.{false}
use mathlib.Core.List.{List, [], ◌∷◌}
use mathlib.Core.Logic.{◌⊎◌, inl, inr}
use mathlib.Core.Path.{◌≡◌, sym, subst, ◌∙◌}
use lib.Dec.{T}
use lib.Ieee.{Float, lt}
use lib.ListN.{length, get_or}
use Rattle.layout.specs.Layout.{words_per_edge, reals_per_edge, words_per_triangle, reals_per_triangle, reals_per_vertex}
use Rattle.nat_laws.specs.Lists.{Pairs}
use Rattle.nat_laws.proofs.Lists.{all_map}
use Rattle.buffers.specs.Slots.{slots_of}
use Rattle.queries.specs.of_better.Claim.{Point}
use Rattle.windows.specs.Windows.{edge_stored, into_of}
use Rattle.chains.specs.Chains.{links}
use Rattle.job_checks.specs.Any.{first_of}
use Rattle.job_checks.specs.Job.{Job, vertex_count, triangle_count}
use Rattle.job_checks.specs.declared.BufferCounts.{BufferCounts}
use Rattle.job_checks.specs.Refusals.{refusals, refusal_of, mesh_tests, piece_tests}
use Rattle.job_checks.specs.Sound.{Sound}
use Rattle.job_checks.proofs.Any.{both_passed, passed_here, passed_on, first_after, first_none}
use Rattle.job_checks.proofs.Sound.{refusals_numbered, sound}
use Rattle.topology.specs.Edges.{no_face, edges, shared_by_three}
use Rattle.topology.proofs.Edges.{edge_count_held}
use Rattle.queries.specs.of_mesh.Answer.{counts_in, mesh_refusals}
use Rattle.queries.specs.of_mesh_readers.Readers.{side_in}
use Rattle.queries.specs.of_trim_model.Windows.{Window}
use Rattle.queries.specs.of_live_windows.Live.{Stands}
use Rattle.field_laws.specs.of_windows_there.There.{GoesInto}
use Rattle.field_laws.proofs.laws_of_windows_there.Sides.{face_there}
use Rattle.queries.specs.of_face_entries.Buffers.{entry_capacity}
use Rattle.field_laws.specs.of_finish.Contents.{FieldBuffers}
use Rattle.computed.specs.declared.Computed.TheVariants.{Field as isField}
use Rattle.computed.specs.declared.Field.{Field}
use Rattle.field_laws.specs.of_compute_spec.Compute.{other_counts}
use Rattle.field_laws.specs.of_field_model.Queue.{queue_in_order}
use Rattle.field_laws.specs.of_field_model.Job.{Finished}
use Rattle.field_laws.specs.of_field_model.Lent.{ComputesOver}
use Rattle.queries.specs.of_field_check.FieldCheck.{meets20}
use Rattle.field_laws.specs.Demands.{FieldLaws}
use Rattle.field_laws.proofs.Job.{entries_fit}
use Rattle.field_laws.proofs.Demands.{field_for, returned}
use Rattle.returned_fields.specs.Held.{FaceThere, HeldJob, HeldSlots, HeldNumbers, HeldWindows, HeldEntries, HeldField, CountsOf, lent_job, lent_field, ReturnedHeld}
use Rattle.vec3.specs.declared.Vec3.{Vec3}
use Rattle.queries.specs.Queries.{face_query, edge_query, vertex_query, window_query}
use Rattle.returned_fields.specs.ByLists.{face_by_lists, edge_by_lists, vertex_by_lists, window_by_lists}
use Rattle.returned_fields.proofs.Passes.{answered}
use Rattle.returned_fields.proofs.Queries.{face_query_is, edge_query_is, vertex_query_is, window_query_is}

pairs_map : {A : Type 0} {R S : A → A → Type 0} → ((x y : A) → R x y → S x y) → (l : List A) → Pairs R l → Pairs S l
pairs_map g [] p = tt
pairs_map {R = R} {S = S} g (x ∷ l) p = (all_map {P = R x} {Q = S x} (g x) l p.0, pairs_map {R = R} {S = S} g l p.1)

-- ---- a job that passed 1 to 10
module _ (j : Job) (c : BufferCounts) (passed : first_of (mesh_refusals j c) ≡ 0) where
  first_nine : refusal_of j c ≡ 0
  unfolding mesh_refusals
  first_nine = (both_passed ((10, shared_by_three j.triangles) ∷ []) (refusals j c) (refusals_numbered j c) passed).0

  sound_job : Sound j c
  sound_job = sound j c first_nine

  held_job : (f : Field) → CountsOf j f → HeldJob f (lent_job j)
  unfolding refusals mesh_tests piece_tests
  held_job f k =
      let W = sound_job.whole in
      let p2 = passed_on _ _ _ (omega arith) first_nine in
      let p3 = passed_on _ _ _ (omega arith) p2 in
      let p4 = passed_on _ _ _ (omega arith) p3 in
      let p5 = passed_on _ _ _ (omega arith) p4 in
      let p6 = passed_on _ _ _ (omega arith) p5 in
      let p7 = passed_on _ _ _ (omega arith) p6 in
      record {
        vertices = omega (arith, W.whole_vertices, k.vertices);
        triangles = omega (arith, W.whole_triangles, k.triangles);
        kinds = sym k.pieces;
        faces = W.face_each ∙ sym k.pieces;
        coords = omega (arith, W.six_each, k.pieces);
        mesh_passed = first_after _ _ _ 0 (passed_here _ _ _ (omega arith) p2) (first_after _ _ _ 0 (passed_here _ _ _ (omega arith) p3) (first_after _ _ _ 0 (passed_here _ _ _ (omega arith) p4) first_none));
        regular = passed_here _ _ _ (omega arith) p5;
        pieces_passed = first_after _ _ _ 0 (passed_here _ _ _ (omega arith) p6) (first_after _ _ _ 0 (passed_here _ _ _ (omega arith) p7) first_none);
        kinds_low = sound_job.kind;
      }

-- ---- a field with the laws
module _ (j : Job) (b : FieldBuffers) (x : Finished) (b' : FieldBuffers) (L : FieldLaws j b x b') (f : Field) (k : CountsOf j f) (made : f.windows ≡ length x.wins) where
  S : Sound j (counts_in b.mesh (other_counts b))
  S = sound_job j (counts_in b.mesh (other_counts b)) L.passed

  held_slots : HeldSlots f (lent_field b')
  held_slots =
      let B = S.buffers in
      let R = L.lengths in
      let es : f.edges ≤ (counts_in b.mesh (other_counts b)).edges = omega (arith, B.edges_fit, edge_count_held j.triangles, S.whole.whole_triangles, k.edge_count_held) in
      let ts : f.triangles ≤ (counts_in b.mesh (other_counts b)).triangles = omega (arith, B.triangles_fit, k.triangles) in
      let vs : f.vertices ≤ slots_of (length b.vertex) reals_per_vertex = omega (arith, B.vertices_fit, k.vertices) in
      record {
        edges = subst (λ (z : ℕ). f.edges ≤ z) (λ i. min (slots_of (sym R.edge_words_held i) words_per_edge) (slots_of (sym R.edge_reals_held i) reals_per_edge)) es;
        triangles = subst (λ (z : ℕ). f.triangles ≤ z) (λ i. min (slots_of (sym R.triangle_words_held i) words_per_triangle) (slots_of (sym R.triangle_reals i) reals_per_triangle)) ts;
        vertices = subst (λ (z : ℕ). f.vertices ≤ z) (λ i. slots_of (sym R.vertex i) reals_per_vertex) vs;
        windows = omega (arith, L.windows.slots_there, made);
      }

  face_named : (g : ℕ) → (g < triangle_count j) ⊎ (g ≡ no_face) → FaceThere f.triangles g
  face_named g (inl h) = inl (omega (arith, h, k.triangles))
  face_named g (inr e) = inr e

  into_named : (e g : ℕ) → GoesInto j.triangles e g → FaceThere f.triangles g
  into_named e g (l, inl of) = inl (omega (arith, face_there j.triangles (vertex_count j) S.triangles e l g of, k.triangles))
  into_named e g (l, inr none) = inr none

  side_there : (t i : ℕ) → t < f.triangles → i < 3 → side_in b'.mesh.triangle_words_held t i < f.edges
  side_there t i l q =
      let h : 3 * t + i < length j.triangles = omega (arith, l, q, k.triangles, S.whole.whole_triangles) in
      let e : words_per_triangle * ((3 * t + i) / 3) + (3 * t + i) % 3 ≡ words_per_triangle * t + i = omega (arith, q) in
      let z = L.mesh.sides_there (3 * t + i) h in
      subst (λ (p : ℕ). get_or b'.mesh.triangle_words_held p 0 < f.edges) e (omega (arith, z, k.edge_count_held))

  module _ (slots : length x.entries ≤ entry_capacity (length b'.entry_words_held)) where
    held_numbers : HeldNumbers f (lent_field b')
    held_numbers =
        let M = L.mesh in
        let W = L.windows in
        let E = L.entries in
        record {
          ends = λ e l. let z = M.ends_there e (omega (arith, l, k.edge_count_held)) in (omega (arith, z.0, z.1, k.vertices), omega (arith, z.1, k.vertices));
          faces = λ e i l q. face_named _ (M.faces_there e i (omega (arith, l, k.edge_count_held)) q);
          heads = λ e l. omega (arith, W.heads_there e, made);
          sides = side_there;
          firsts = λ t l. omega (arith, E.firsts_there t, slots);
          lasts = λ t l. omega (arith, E.lasts_there t, slots);
          window_edges = λ i l. let z = (W.edge_there i (omega (arith, l, made))).0 in omega (arith, z, k.edge_count_held);
          window_faces = λ i l. into_named (edge_stored b'.words i) (into_of b'.words i) (W.edge_there i (omega (arith, l, made)));
          window_links = λ i l. let z = W.links_there i (omega (arith, l, made)) in omega (arith, z, made);
        }

    held_windows : HeldWindows f (lent_field b') x.live
    held_windows =
        let W = L.windows in
        record {
          stands = λ e l. subst (λ (n : ℕ). Stands n (links b'.mesh.edge_words_held b'.words) b'.reals e (x.live e)) (sym made) (W.holds.on_edge e);
          ordered = λ e l. all_map {P = λ (u : Window). Point u.b0 × (Point u.b1 × T (lt u.b0 u.b1))} {Q = λ (u : Window). T (lt u.b0 u.b1)} (λ u p. p.1.1) (x.live e) (W.ordered e);
          rise = λ e l. pairs_map {R = λ (u v : Window). T (lt u.b0 v.b0) × T (lt u.b1 v.b1)} {S = λ (u v : Window). T (lt u.b0 v.b0)} (λ u v p. p.0) (x.live e) (W.rise e);
        }

    held_entries : HeldEntries f (lent_field b') x.entries
    held_entries = record { holds = L.entries.holds; slots = slots; pieces = λ i l. omega (arith, L.entries.pieces_there i l, k.pieces); entry_links = L.entries.links_there }

    pub held_field : HeldField f (lent_job j) (lent_field b') x.live x.entries
    held_field = record { job = held_job j (counts_in b.mesh (other_counts b)) L.passed f k; slots = held_slots; numbers = held_numbers; windows = held_windows; entries = held_entries }

-- ---- of an answer of `compute`
module _ (j : Job) (b : FieldBuffers) (most : ℕ) (f : Field) (b' : FieldBuffers) (C : ComputesOver queue_in_order j b most (isField f) b') where
  pub returned_held : ReturnedHeld j f b'
  returned_held =
      let R = returned j b most f b' C in
      let slots = field_for j b most (λ (x : Finished). length x.entries ≤ entry_capacity (length b.entry_words_held)) (λ y n is. entries_fit j b most y n is) R.finished R.comes_to in
      record {
        live = R.finished.live;
        entries = R.finished.entries;
        held = held_field j b R.finished b' R.laws f
            (record { vertices = R.vertices; triangles = R.triangles; pieces = R.pieces; edge_count_held = R.edge_count_held })
            R.windows (subst (λ (z : ℕ). length R.finished.entries ≤ entry_capacity z) (sym R.laws.lengths.same.entry_words_held) slots);
      }

  pub returned_passes : meets20 (isField f) (lent_job j) (lent_field b') ≡ false
  returned_passes = let H = returned_held in answered f (lent_job j) (lent_field b') H.live H.entries H.held

  pub returned_face : (t : ℕ) (p : Vec3) → face_query (lent_job j) (lent_field b') (isField f) t p ≡ face_by_lists f (lent_job j) (lent_field b') returned_held.live returned_held.entries t p
  returned_face = face_query_is f (lent_job j) (lent_field b') returned_held.live returned_held.entries returned_held.held

  pub returned_edge : (e : ℕ) (x : Float) → edge_query (lent_job j) (lent_field b') (isField f) e x ≡ edge_by_lists f (lent_job j) (lent_field b') returned_held.live returned_held.entries e x
  returned_edge = edge_query_is f (lent_job j) (lent_field b') returned_held.live returned_held.entries returned_held.held

  pub returned_vertex : (k : ℕ) → vertex_query (lent_job j) (lent_field b') (isField f) k ≡ vertex_by_lists f (lent_job j) (lent_field b') returned_held.live returned_held.entries k
  returned_vertex = vertex_query_is f (lent_job j) (lent_field b') returned_held.live returned_held.entries returned_held.held

  pub returned_window : (e i : ℕ) → window_query (lent_job j) (lent_field b') (isField f) e i ≡ window_by_lists f (lent_job j) (lent_field b') returned_held.live returned_held.entries e i
  returned_window = window_query_is f (lent_job j) (lent_field b') returned_held.live returned_held.entries returned_held.held
