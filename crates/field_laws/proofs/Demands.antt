-- The three demands of the whole job, and the laws of a field that a job returned: demand_1, demand_2, demand_3, field_laws; returned, of an answer. They are shown of the field that
-- `compute_by_heap` comes to, over the heap's buffers, and so of the job over the list of events in order (field_for, by job_same). Assumes nothing.
use Prim.Native.Nat.{ℕ, zero, suc, ◌+◌, ◌*◌, ◌-◌, ◌≤◌, ◌<◌}
use native.Mathlib.Omega.{arith}
use mathlib.Core.Bool.{Bool, false, cond}
use mathlib.Core.List.{List, [], ◌∷◌, map}
use mathlib.Core.Logic.{inl}
use mathlib.Core.Path.{◌≡◌, refl, sym, ap, subst, ◌∙◌}
use borrow.Author.Tests.{le-leb, lt-leb}
use lib.Dec.{leb}
use lib.ListN.{length, get_or, replicate, get_or-append}
use lib.Ieee.{Float}
use Rattle.layout.specs.Layout.{words_per_edge, words_per_triangle, words_per_piece}
use Rattle.float64.specs.Scalar.{zero64}
use Rattle.work_laws.specs.of_better.Claim.{All}
use Rattle.chains.specs.Chains.{links, link_at, Path}
use Rattle.job_checks.specs.declared.BufferCounts.{BufferCounts}
use Rattle.job_checks.specs.Any.{first_of}
use Rattle.job_checks.specs.Job.{Job, vertex_count, triangle_count, piece_count}
use Rattle.job_checks.specs.Refusals.{refusals}
use Rattle.topology.specs.Edges.{edges}
use Rattle.work_laws.specs.of_mesh.Topology.{MeshBuffers, filled}
use Rattle.work_laws.specs.of_mesh.Answer.{counts_in, mesh_refusals, mesh_refusal}
use Rattle.work_laws.specs.of_trim_model.Windows.{Window, unqueued}
use Rattle.work_laws.proofs.laws_of_trim_model.Ranks.{by_cases}
use Rattle.work_laws.proofs.laws_of_trim_model.Lists.{all_map}
use Rattle.work_laws.specs.of_trim_state.State.{State, EdgeData}
use Rattle.work_laws.proofs.laws_of_trim_state.Follows.{follows_demand3}
use Rattle.work_laws.specs.of_live_windows.Live.{nums}
use Rattle.work_laws.proofs.laws_of_live_windows.Places.{head_path, short}
use Rattle.field_model.specs.of_contents.Contents.{words_from, reals_from}
use Rattle.field_model.specs.of_offers.Walks.{edge_data}
use Rattle.field_model.specs.of_face_entries.Buffers.{first_entry_of, last_entry_of}
use Rattle.field_model.specs.of_face_entries.Entries.{FaceEntry, numbers_of, triangles_with, entry_words_from, entry_words, HoldsEntries, HoldsOnly}
use Rattle.field_model.proofs.laws_of_face_entries.Linking.{chain_first}
use Rattle.field_model.proofs.laws_of_face_entries.Numbers.{numbers_few}
use Rattle.field_model.proofs.laws_of_face_entries.Content.{FaceThere, content_only}
use Rattle.field_model.proofs.laws_of_face_entries.Keeping.{fresh_none}
use Rattle.work_laws.specs.of_insertion.Insertion.{Inserted}
use Rattle.field_model.specs.of_cut_slots.Slots.{cut_count, cut_to}
use Rattle.work_laws.specs.of_run_steps.Run as run
use Rattle.work_laws.specs.of_run_steps.Run.{WorkResult, field}
use Rattle.work_laws.specs.of_field_work.Work.{work_of}
use Rattle.work_laws.proofs.laws_of_last_pass.Chains.{chain_is}
use Rattle.work_laws.proofs.laws_of_last_pass.Finished.{lows_stay, lists_stay}
use Rattle.field_model.specs.of_finish.Contents.{FieldBuffers, FieldContents}
use Rattle.field_model.specs.of_finish.Refused.{zero_field}
use Rattle.field_model.proofs.laws_of_finish.Spare.{fresh_spare, field_spare}
use Rattle.computed.specs.declared.Computed.{Computed}
use Rattle.computed.specs.declared.Computed.TheVariants.{Refused, Field as Computed-as-Field}
use Rattle.computed.specs.declared.Field.{Field}
use Rattle.field_model.specs.of_compute_spec.Compute.{other_counts, work_slices_in, unless_refused, compute_by_heap}
use Rattle.work_laws.specs.of_trim_model.Model.{Candidate}
use Rattle.field_model.specs.Queue.{queue_in_order}
use Rattle.field_model.specs.Field.{Reply, refused, gives}
use Rattle.field_model.specs.Job.{Finished}
use Rattle.field_model.specs.Lent.{compute_over, candidates_over, answer_over, emptied, LeavesOver, ComputesOver, finished_of}
use Rattle.field_model.proofs.Lawful.{in_order}
use Rattle.field_model.proofs.Whole.{job_same, job_candidates_lem}
use Rattle.topology.proofs.Checked.{edge_ends}
use Rattle.work_laws.specs.of_last_pass.Lowered.{lowered_all}
use Rattle.work_laws.proofs.Zeros.{zeros_behind}
use Rattle.work_laws.proofs.Beyond.{Beyond, beyond_lowered}
use Rattle.work_laws.proofs.Stops.{WorkEnds, work_ends}
use Rattle.field_laws.specs.Demands.{EndsWithin, RestIsZero, BuffersThen, JobDemand1, AsTheRust, JobDemand2, ModelKept, JobDemand3, EntryLaws, FieldLaws, ReturnedField, Returned}
use Rattle.field_laws.proofs.Held.{length_words, length_reals}
use Rattle.field_laws.proofs.Job.{job_candidates, finished_as, passed, built, sound_job, mesh_fresh, triangle_slots_held, face_there, laws, entries_are, entries_fit}
use Rattle.field_laws.proofs.Entries.{job_entries, first_there, last_there, link_below_lem, piece_below}
use Rattle.field_laws.proofs.Lengths.{entries_from, field_lengths}
use Rattle.field_laws.proofs.Reasons.{refused_for}
use Rattle.field_laws.proofs.Taken.{none_numbered, vertex_slots_lem, edge_slots_zero, length_slots, round_slots, triangle_slots_zero, normal_slots, direction_slots}
use Rattle.field_model.proofs.laws_of_piece_ends.Held.{spare_zero}
use Rattle.field_laws.proofs.Field.{idle_windows, no_windows_held, mesh_laws, window_laws}

-- windows of which none is queued
unqueued_same : (us : List Window) → All (λ (u : Window). u.carried.queued ≡ false) us → map unqueued us ≡ us
unqueued_same [] a = refl
unqueued_same (u ∷ us) a =
    (λ i. record { b0 = u.b0; b1 = u.b1; low = u.low; src = u.src; carried = record { into = u.carried.into; queued = sym a.0 i }; num = u.num } ∷ unqueued_same us a.1 i)

-- ---- a field
module _ (j : Job) (b : FieldBuffers) (most : ℕ) (x : Inserted) (n : ℕ) (is : compute_by_heap j b most ≡ field x n) where
  abbrev s : State
  s = x.state

  entries_there : All (λ (y : FaceEntry). (y.face < triangle_count j) × (y.entry.piece < piece_count j)) x.entries
  entries_there =
      subst (All (λ (y : FaceEntry). (y.face < triangle_count j) × (y.entry.piece < piece_count j))) (sym (entries_are j b most x n is))
      (job_entries j.vertices j.triangles (vertex_count j) (sound_job j b most x n is).triangles j.kinds j.faces j.coords (face_there j b most x n is))

  faces_in_lem : All (λ (y : FaceEntry). y.face < triangle_count j) x.entries
  faces_in_lem = all_map {P = λ (y : FaceEntry). (y.face < triangle_count j) × (y.entry.piece < piece_count j)} {Q = λ (y : FaceEntry). y.face < triangle_count j} (λ y k. k.0) x.entries entries_there

  pieces_in : All (λ (y : FaceEntry). y.entry.piece < piece_count j) x.entries
  pieces_in = all_map {P = λ (y : FaceEntry). (y.face < triangle_count j) × (y.entry.piece < piece_count j)} {Q = λ (y : FaceEntry). y.entry.piece < piece_count j} (λ y k. k.1) x.entries entries_there

  abbrev m : MeshBuffers
  m = built j b most x n is

  holds_only : HoldsOnly m.triangle_words_held (length x.entries) (triangles_with m.triangle_words_held x.entries) (entry_words (length b.entry_words_held) x.entries) x.entries
  holds_only =
      content_only m.triangle_words_held (length b.entry_words_held) (fresh_none m (mesh_fresh j b most x n is)) x.entries (entries_fit j b most x n is)
      (all_map {P = λ (y : FaceEntry). (y.face < triangle_count j) × (y.entry.piece < piece_count j)} {Q = FaceThere m.triangle_words_held} (λ y k. let z = k.0 in omega (arith, z, triangle_slots_held j b most x n is)) x.entries entries_there)

  model_kept : ModelKept j (job_candidates j b most) s.live
  model_kept =
      let F = (laws j b most x n is).follows in
      record { exactly = λ e. sym (unqueued_same (s.live e) (idle_windows j b most x n is e)) ∙ F.same e; trimmed = λ e. follows_demand3 F e }

  module _ (b' : FieldBuffers) (c : FieldContents m (edge_data j.vertices j.triangles) (length (edges j.triangles)) s x.entries j.kinds j.coords b b') where
    entry_word : (i a : ℕ) → i < length x.entries → a < 3 → get_or b'.entry_words_held (3 * i + a) 0 ≡ get_or (entry_words_from 0 x.entries) (3 * i + a) 0
    entry_word i a l m =
        let w = entry_words_from 0 x.entries in
        ap (λ (z : List ℕ). get_or z (3 * i + a) 0) c.entry_words_held ∙ get_or-append w (replicate (length b.entry_words_held - 3 * length x.entries) 0) 0 (3 * i + a) (omega (arith, l, m, entries_from 0 x.entries))

    entry_laws : EntryLaws j x.entries b'
    entry_laws = record {
      holds = subst (λ (w : List ℕ). HoldsEntries (length x.entries) b'.mesh.triangle_words_held w x.entries) (sym c.entry_words_held)
          (subst (λ (t : List ℕ). HoldsEntries (length x.entries) t (entry_words (length b.entry_words_held) x.entries) x.entries) (sym c.triangle_words_held) holds_only.holds);
      entries_there = entries_there;
      pieces_there = λ i l. subst (λ (z : ℕ). z < piece_count j) (sym (entry_word i 0 l (omega arith))) (piece_below (piece_count j) 0 x.entries pieces_in i l);
      firsts_there = λ f. subst (λ (z : ℕ). z ≤ length x.entries) (sym (ap (λ (t : List ℕ). first_entry_of t f) c.triangle_words_held ∙ chain_first (entry_words (length b.entry_words_held) x.entries) (first_entry_of (triangles_with m.triangle_words_held x.entries) f) (numbers_of f x.entries) (holds_only.holds.chain f))) (first_there f x.entries);
      lasts_there = λ f. subst (λ (z : ℕ). z ≤ length x.entries) (sym (ap (λ (t : List ℕ). last_entry_of t f) c.triangle_words_held ∙ holds_only.holds.last f)) (last_there f x.entries);
      links_there = λ i l. let z = link_below_lem 0 x.entries i l in subst (λ (q : ℕ). q ≤ length x.entries) (sym (entry_word i 2 l (omega arith))) (omega (arith, z));
      chains_end = λ f. numbers_few 0 f x.entries;
    }

    laws_of : FieldLaws j b (finished_as x n) b'
    laws_of = record { passed = passed j b most x n is; lengths = field_lengths j b most x n is b' c; mesh = mesh_laws j b most x n is b' c; windows = window_laws j b most x n is b' c; entries = entry_laws }

    as_the_rust : AsTheRust j (finished_as x n) b'
    as_the_rust =
        let L = laws j b most x n is in
        let W = (window_laws j b most x n is b' c).holds in
        let made = length s.wins in
        let k = links b'.mesh.edge_words_held b'.words in
        record {
          windows = W.all ∙ sym (lows_stay s.wins L.recorded.lows);
          lists = λ none e.
              let stands = (W.on_edge e).chain in
              let p : Path b'.words (link_at k e 0) (nums (s.live e)) = head_path k e (nums (s.live e)) stands.path in
              chain_is made k e (nums (s.live e)) made 0 p stands.belong (short made b'.words e (link_at k e 0) (nums (s.live e)) p stands.belong)
              ∙ sym (lists_stay made b'.words b'.reals b'.mesh.edge_words_held s.wins s.live W none L.follows e);
          distances = c.vertex;
        }

    lowered_there : Beyond (vertex_count j) (lowered_all (length (edges j.triangles)) (edge_data j.vertices j.triangles) s.live s.stock.vertex)
    lowered_there =
        beyond_lowered (vertex_count j) (length (edges j.triangles)) (edge_data j.vertices j.triangles)
        (λ e l. let z = edge_ends j.triangles (vertex_count j) (sound_job j b most x n is).triangles e l in (omega (arith, z.0, z.1), z.1)) s.live s.stock.vertex (laws j b most x n is).beyond

    rest_is_zero : RestIsZero j (length s.wins) (length x.entries) b b'
    rest_is_zero =
        record {
          keys = c.keys;
          events = c.events;
          cuts = c.cuts;
          scratch = c.scratch;
          other_scratch = c.other_scratch;
          words = λ p h. ap (λ (l : List ℕ). get_or l p 0) c.words ∙ zeros_behind 0 (words_from s.live 0 s.wins) (length b.words - length (words_from s.live 0 s.wins)) p (omega (arith, h, length_words s.live 0 s.wins));
          reals = λ p h. ap (λ (l : List Float). get_or l p zero64) c.reals ∙ zeros_behind zero64 (reals_from s.wins) (length b.reals - length (reals_from s.wins)) p (omega (arith, h, length_reals s.wins));
          entries = λ p h. ap (λ (l : List ℕ). get_or l p 0) c.entry_words_held ∙ holds_only.behind p h;
          vertex_words_held = λ p h. ap (λ (l : List ℕ). get_or l p 0) c.vertex_words_held ∙ vertex_slots_lem j.vertices j.triangles j.flags b.mesh p h;
          vertex = λ p h. ap (λ (l : List Float). get_or l p zero64) c.vertex ∙ lowered_there p h;
          edge_words_held = λ i a h l. ap (λ (z : List ℕ). get_or z (words_per_edge * i + a) 0) c.edge_words_held ∙ edge_slots_zero j.vertices j.triangles j.flags b.mesh s.live i a h l (no_windows_held j b most x n is i h);
          edge_reals_held = λ p h. ap (λ (l : List Float). get_or l p zero64) c.edge_reals_held ∙ length_slots j.vertices j.triangles j.flags b.mesh p h;
          round = λ p h. ap (λ (l : List ℕ). get_or l p 0) c.round ∙ round_slots j.vertices j.triangles j.flags b.mesh (sound_job j b most x n is).triangles p h;
          triangle_words_held = λ i a h l.
              ap (λ (z : List ℕ). get_or z (words_per_triangle * i + a) 0) c.triangle_words_held
              ∙ triangle_slots_zero j.vertices j.triangles j.flags b.mesh x.entries i a (let z = (sound_job j b most x n is).whole.whole_triangles in omega (arith, z, h)) l (none_numbered (triangle_count j) i h 0 x.entries faces_in_lem);
          triangle_reals = λ p h. ap (λ (l : List Float). get_or l p zero64) c.triangle_reals ∙ normal_slots j.vertices j.triangles j.flags b.mesh p h;
          piece_words = λ i a h l. ap (λ (z : List ℕ). get_or z (words_per_piece * i + a) 0) c.piece_words ∙ spare_zero j.kinds j.coords (length b.piece_words) i a h l;
          piece_reals = λ p h. ap (λ (l : List Float). get_or l p zero64) c.piece_reals ∙ direction_slots j.kinds j.coords (length b.piece_reals) p h;
          spare = field_spare m (edge_data j.vertices j.triangles) (length (edges j.triangles)) s x.entries j.kinds j.coords b b' (fresh_spare m (mesh_fresh j b most x n is)) c;
        }

-- ---- refusals
first_few : (k : ℕ) (ts : List (ℕ × Bool)) → All (λ (t : ℕ × Bool). t.0 ≤ k) ts → first_of ts ≤ k
unfolding first_of
first_few k [] a = omega arith
first_few k (t ∷ ts) a = by_cases (λ (b : Bool). cond b t.0 (first_of ts) ≤ k) t.1 (λ y. a.0) (λ y. first_few k ts a.1)

mesh_few : (j : Job) (c : BufferCounts) → mesh_refusal j c ≤ 10
unfolding mesh_refusals refusals
mesh_few j c =
    first_few 10 (mesh_refusals j c) (omega arith, (omega arith, (omega arith, (omega arith, (omega arith, (omega arith, (omega arith, (omega arith, (omega arith, (omega arith, tt))))))))))

work_within : (most : ℕ) (r : WorkResult) → WorkEnds most r → EndsWithin most (finished_of r)
unfolding finished_of
work_within most (run.refused k) h = (let z = h.0 in omega (arith, z), h.1)
work_within most (field x n) h = h

ends_within : (most k : ℕ) (r : WorkResult) → k ≤ 10 → WorkEnds most r → EndsWithin most (finished_of (unless_refused k r))
unfolding unless_refused finished_of
ends_within most zero r h w = work_within most r w
ends_within most (suc k) r h w = (omega arith, inl (omega (arith, h)))

refused_buffers : (k : ℕ) (b b' : FieldBuffers) → b' ≡ cond (leb k 9) b (zero_field b) → (k ≤ 9 → b' ≡ b) × (9 < k → b' ≡ zero_field b)
refused_buffers k b b' h =
    ((λ l. h ∙ ap (λ (t : Bool). cond t b (zero_field b)) (le-leb k 9 l)), (λ l. h ∙ ap (λ (t : Bool). cond t b (zero_field b)) (lt-leb k 9 l)))

-- what a field's buffers hold says nothing of the queue
with_queue_lem : (built : MeshBuffers) (mesh : EdgeData) (edge_count_held : ℕ) (x : Inserted) (n : ℕ) (kinds : List ℕ) (coords : List Float) (b b' : FieldBuffers)
    → FieldContents built mesh edge_count_held (emptied (finished_as x n)) x.entries kinds coords b b' → FieldContents built mesh edge_count_held x.state x.entries kinds coords b b'
with_queue_lem built mesh edge_count_held x n kinds coords b b' c = record {
  vertex_words_held = c.vertex_words_held;
  edge_words_held = c.edge_words_held;
  edge_reals_held = c.edge_reals_held;
  round = c.round;
  triangle_words_held = c.triangle_words_held;
  triangle_reals = c.triangle_reals;
  vertex = c.vertex;
  piece_words = c.piece_words;
  piece_reals = c.piece_reals;
  words = c.words;
  reals = c.reals;
  keys = c.keys;
  events = c.events;
  cuts = c.cuts;
  entry_words_held = c.entry_words_held;
  scratch = c.scratch;
  other_scratch = c.other_scratch;
}

-- ---- the demands
finished_or : Finished → Reply Finished → Finished
finished_or d (refused k) = d
finished_or d (gives x) = x

Gives : Reply Finished → Type 0
Gives (refused k) = ⊥
Gives (gives x) = Unit {0}

module _ (j : Job) (b : FieldBuffers) (most : ℕ) where
  abbrev given : (x : Inserted) (n : ℕ) (b' : FieldBuffers) → LeavesOver j b (gives (finished_as x n)) b'
      → FieldContents (filled j.vertices j.triangles j.flags b.mesh) (edge_data j.vertices j.triangles) (length (edges j.triangles)) x.state x.entries j.kinds j.coords b b'
  given x n b' c = with_queue_lem (filled j.vertices j.triangles j.flags b.mesh) (edge_data j.vertices j.triangles) (length (edges j.triangles)) x n j.kinds j.coords b b' c

  same : compute_over queue_in_order j b most ≡ finished_of (compute_by_heap j b most)
  same = job_same queue_in_order in_order j b most

  -- whatever is so of the field over the heap's buffers is so of the field
  pub field_for : (P : Finished → Type 0) → ((y : Inserted) (n : ℕ) → compute_by_heap j b most ≡ field y n → P (finished_as y n)) → (x : Finished) → compute_over queue_in_order j b most ≡ gives x → P x
  unfolding finished_of finished_or Gives
  field_for P each x is = go (compute_by_heap j b most) refl (sym same ∙ is) where
    go : (r : WorkResult) → compute_by_heap j b most ≡ r → finished_of r ≡ gives x → P x
    go (run.refused k) e h = absurd (subst Gives (sym h) tt)
    go (field y n) e h = subst P (ap (finished_or x) h) (each y n e)

  buffers_then : (r : WorkResult) → compute_by_heap j b most ≡ r → (b' : FieldBuffers) → LeavesOver j b (finished_of r) b' → BuffersThen j b (finished_of r) b'
  unfolding finished_of
  buffers_then (run.refused k) h b' c = refused_buffers k b b' c
  buffers_then (field x n) h b' c = rest_is_zero j b most x n h b' (given x n b' c)

  pub demand_1 : JobDemand1 j b most
  demand_1 = subst (λ (r : Reply Finished). EndsWithin most r × ((b' : FieldBuffers) → LeavesOver j b r b' → BuffersThen j b r b')) (sym same) (
    ends_within most (mesh_refusal j (counts_in b.mesh (other_counts b)))
        (work_of j (filled j.vertices j.triangles j.flags b.mesh).vertex_words_held (work_slices_in b) (cut_to (cut_count b.cuts) b.cuts) most)
        (mesh_few j (counts_in b.mesh (other_counts b))) (work_ends j (filled j.vertices j.triangles j.flags b.mesh).vertex_words_held (work_slices_in b) (cut_to (cut_count b.cuts) b.cuts) most),
    buffers_then (compute_by_heap j b most) refl,
  )

  pub demand_2 : JobDemand2 j b most
  demand_2 = (
    field_for (λ (x : Finished). (b' : FieldBuffers) → LeavesOver j b (gives x) b' → AsTheRust j x b') (λ x n is b' c. as_the_rust j b most x n is b' (given x n b' c)),
    refused_for j b most,
  )

  pub demand_3 : JobDemand3 j b most
  demand_3 =
      field_for (λ (x : Finished). ModelKept j (candidates_over queue_in_order j b most) x.live)
      (λ x n is. subst (λ (cs : List Candidate). ModelKept j cs x.state.live) (sym (job_candidates_lem queue_in_order in_order j b most (passed j b most x n is))) (model_kept j b most x n is))

  pub field_laws : ReturnedField j b most
  field_laws = field_for (λ (x : Finished). (b' : FieldBuffers) → LeavesOver j b (gives x) b' → FieldLaws j b x b') (λ x n is b' c. laws_of j b most x n is b' (given x n b' c))

-- ---- an answer
field_or : Field → Computed → Field
field_or d (Refused k) = d
field_or d (Computed-as-Field f) = f

IsField : Computed → Type 0
IsField (Refused k) = ⊥
IsField (Computed-as-Field f) = Unit {0}

answer_of_lem : (j : Job) (b : FieldBuffers) (most : ℕ) (f : Field) (b' : FieldBuffers) (r : Reply Finished) → compute_over queue_in_order j b most ≡ r → Computed-as-Field f ≡ answer_over j r → EndsWithin most r → LeavesOver j b r b' → Returned j b most f b'
unfolding answer_over field_or IsField
answer_of_lem j b most f b' (refused k) is a w c = absurd (subst IsField a tt)
answer_of_lem j b most f b' (gives x) is a w c =
    let same = ap (field_or f) a in
    record {
      finished = x;
      comes_to = is;
      vertices = ap (λ (z : Field). z.vertices) same;
      triangles = ap (λ (z : Field). z.triangles) same;
      pieces = ap (λ (z : Field). z.pieces) same;
      edge_count_held = ap (λ (z : Field). z.edges) same;
      windows = ap (λ (z : Field). z.windows) same;
      popped = ap (λ (z : Field). z.steps) same;
      steps_within = let z = ap (λ (z : Field). z.steps) same in omega (arith, z, w);
      leaves = c;
      laws = field_laws j b most x is b' c;
      as_the_rust = (demand_2 j b most).0 x is b' c;
      model = demand_3 j b most x is;
    }

pub returned : (j : Job) (b : FieldBuffers) (most : ℕ) (f : Field) (b' : FieldBuffers) → ComputesOver queue_in_order j b most (Computed-as-Field f) b' → Returned j b most f b'
returned j b most f b' C = answer_of_lem j b most f b' (compute_over queue_in_order j b most) refl C.answer (demand_1 j b most).0 C.leaves
