-- A whole job over any queue that takes the least event: its refusal is that of `compute_by_heap`, or else all but the queue is the same. Assumes nothing.
use Rattle.std.specs.Prelude.{if◌then◌else◌}
use Prim.Native.Nat.{ℕ, zero, suc, ◌+◌, ◌≤◌, ◌<◌, min}
use native.Mathlib.Omega.{arith}
use mathlib.Core.Bool.{Bool, true, false}
use mathlib.Core.List.{List, ◌++◌}
use mathlib.Core.Path.{◌≡◌, refl, sym, ap, ◌∙◌}
use lib.ListN.{length, length-take}
use Rattle.layout.specs.Layout.{words_per_event}
use Rattle.buffers.specs.Slots.{slots_of}
use Rattle.windows.specs.Windows.{capacity_of}
use Rattle.compute_spec.specs.of_face_entries.Buffers.{entry_capacity}
use Rattle.compute_spec.specs.of_cut_lists.Buffers.{Cuts}
use Rattle.job_checks.specs.Job.{Job}
use Rattle.compute_spec.specs.of_mesh.Topology.{filled}
use Rattle.compute_spec.specs.of_mesh.Answer.{counts_in, mesh_refusal}
use Rattle.compute_spec.specs.of_offers.Walks.{edge_data}
use Rattle.compute_spec.specs.of_trim_model.Model.{Candidate}
use Rattle.compute_spec.specs.of_source_inserts.Inserts.{candidates_in}
use Rattle.compute_spec.specs.of_insertion.Insertion.{InsertResult}
use Rattle.compute_spec.specs.of_begin.Begin.{WorkSlices}
use Rattle.compute_spec.specs.of_insert_job.Field.{begun_job, empty_field, inserts_of, inserted_field}
use Rattle.compute_spec.specs.of_insert_job.Job.{wedge_in}
use Rattle.compute_spec.specs.of_cut_slots.Slots.{cut_count, cut_to}
use Rattle.compute_spec.specs.of_run_steps.Run as run
use Rattle.compute_spec.specs.of_advance.Advance.{advance_of, steps_of}
use Rattle.compute_spec.specs.of_run_steps.Run.{WorkResult, budgeted, loop_of}
use Rattle.compute_spec.specs.of_field_work.Work.{and_loop, work_of, work_candidates}
use Rattle.compute_spec.specs.of_finish.Contents.{FieldBuffers}
use Rattle.compute_spec.specs.Compute.{other_counts, work_slices_in, unless_refused, compute_by_heap}
use Rattle.field_model.specs.Queue.{QueueKind, queue_in_order, LeastFirst, queue_kind}
use Rattle.field_model.specs.Field.{FieldState, Reply, refused, and_go, Slots, loop_in}
use Rattle.field_model.specs.Job.{Finished, finished, pseudo_of, after_sources, field_of, job_candidates, unless_mesh}
use Rattle.field_model.specs.Lent.{slots_in, compute_over, candidates_over, finished_of}
use Rattle.heap.specs.Model.{AnyQueue}
use Rattle.field_model.proofs.Lawful.{in_order, any_kind}
use Rattle.field_model.proofs.Playing.{Agreed}
use Rattle.field_model.proofs.Loop.{loop_same}
use Rattle.field_model.proofs.Inserting.{MeetsInserted, both_refused, both_inserted, each_meets, work_slots, begun_alike}
use Rattle.field_model.proofs.Candidates.{offered_same}
use Rattle.field_model.proofs.Flags.{ends_agreed}

module _ (Q : QueueKind) (L : LeastFirst Q) (j : Job) (flags : List ℕ) (s : WorkSlices) (c : Cuts) (most : ℕ)
    (named : (e : ℕ) → Agreed (pseudo_of j) flags ((edge_data j.vertices j.triangles).low e) × Agreed (pseudo_of j) flags ((edge_data j.vertices j.triangles).high e)) where
  abbrev slots : Slots
  slots = work_slots s c

  small : slots.windows < 4294967296
  small = omega arith

  abbrev over : Reply (FieldState Q.State) → Reply Finished
  over r = and_go r (λ (f : FieldState Q.State). and_go (loop_in Q slots j.limit (pseudo_of j) j.vertices j.triangles most 0 f) finished)

  abbrev heaped : InsertResult → WorkResult
  heaped r = and_loop r (loop_of slots.cuts slots.windows j.limit flags j.vertices j.triangles most)

  run_same : (r : Reply (FieldState Q.State)) (o : InsertResult) → MeetsInserted Q L slots r o → over r ≡ finished_of (heaped o)
  unfolding and_loop and_go finished_of
  run_same _ _ (both_refused n) = refl
  run_same _ _ (both_inserted x q a) =
      let steps = steps_of slots.cuts slots.windows j.limit flags j.vertices j.triangles most x.state in
      let none : 0 + steps ≡ steps = omega arith in
      let end = advance_of slots.cuts slots.windows j.limit flags j.vertices j.triangles most x.state in
      loop_same Q L slots small j.limit (pseudo_of j) flags j.vertices j.triangles named x.entries most 0 x.state q a ∙ ap (λ (n : ℕ). finished_of (budgeted x.entries n end)) none

  insertion_same : MeetsInserted Q L slots (after_sources Q slots j) (inserted_field j flags s c)
  insertion_same = each_meets Q L slots small j.limit (pseudo_of j) flags j.vertices j.triangles named (inserts_of j) (empty_field (begun_job j s)) Q.start (begun_alike Q L j s c)

  -- the work on a job whose mesh is made
  pub work_same : field_of Q slots j most ≡ finished_of (work_of j flags s c most)
  work_same = go (wedge_in j) where
    go : (b : Bool) → (if b then refused 11 else over (after_sources Q slots j)) ≡ finished_of (if b then run.refused 11 else heaped (inserted_field j flags s c))
    go true = unfold finished_of in refl
    go false = run_same (after_sources Q slots j) (inserted_field j flags s c) insertion_same

  -- and its candidates
  pub candidates_same : job_candidates Q slots j most ≡ work_candidates j flags s c most
  candidates_same =
      ap (λ (l : List Candidate). candidates_in (inserts_of j) ++ l)
      (offered_same Q L slots small j.limit (pseudo_of j) flags j.vertices j.triangles named most (after_sources Q slots j) (inserted_field j flags s c) insertion_same)

under : (p a b : ℕ) → min (min (slots_of p 1) a) b ≤ p
under p a b = omega arith

lesser : (x p : ℕ) → x ≤ p → min x p ≡ x
lesser x p h = omega arith

-- the cut lists were cut to what all four have slots for
slots_are : (b : FieldBuffers) → work_slots (work_slices_in b) (cut_to (cut_count b.cuts) b.cuts) ≡ slots_in b
slots_are b = λ i. record {
  windows = capacity_of (length b.words) (length b.reals);
  events = min (slots_of (length b.events) words_per_event) (slots_of (length b.keys) 1);
  cuts = (length-take (cut_count b.cuts) b.cuts.pts ∙ lesser (cut_count b.cuts) (length b.cuts.pts) (under (length b.cuts.pts) _ _)) i;
  entries = entry_capacity (length b.entry_words_held);
  vertex_reals_held = length b.vertex;
}

-- whatever the queue, of every job, in whatever buffers, within whatever budget: the refusal of `compute_by_heap`, or its field but for the queue
pub job_same : (Q : QueueKind) (L : LeastFirst Q) (j : Job) (b : FieldBuffers) (most : ℕ) → compute_over Q j b most ≡ finished_of (compute_by_heap j b most)
job_same Q L j b most = go (mesh_refusal j (counts_in b.mesh (other_counts b))) refl where
  words : List ℕ
  words = (filled j.vertices j.triangles j.flags b.mesh).vertex_words_held

  cuts : Cuts
  cuts = cut_to (cut_count b.cuts) b.cuts

  go : (k : ℕ) → mesh_refusal j (counts_in b.mesh (other_counts b)) ≡ k → unless_mesh k (field_of Q (slots_in b) j most) ≡ finished_of (unless_refused k (work_of j words (work_slices_in b) cuts most))
  go zero passed = unfold unless_mesh unless_refused in
      ap (λ (t : Slots). field_of Q t j most) (sym (slots_are b)) ∙ work_same Q L j words (work_slices_in b) cuts most (ends_agreed j (other_counts b) b.mesh passed)
  go (suc k) h = unfold unless_mesh unless_refused finished_of in refl

-- and where the mesh passed, its candidates are the same
pub job_candidates_lem : (Q : QueueKind) (L : LeastFirst Q) (j : Job) (b : FieldBuffers) (most : ℕ) → mesh_refusal j (counts_in b.mesh (other_counts b)) ≡ 0
    → candidates_over Q j b most ≡ work_candidates j (filled j.vertices j.triangles j.flags b.mesh).vertex_words_held (work_slices_in b) (cut_to (cut_count b.cuts) b.cuts) most
job_candidates_lem Q L j b most passed =
    ap (λ (t : Slots). job_candidates Q t j most) (sym (slots_are b))
    ∙ candidates_same Q L j (filled j.vertices j.triangles j.flags b.mesh).vertex_words_held (work_slices_in b) (cut_to (cut_count b.cuts) b.cuts) most (ends_agreed j (other_counts b) b.mesh passed)

-- so crate heap's queues, the Rust's `BinaryHeap` among them, come to what the list in order comes to
pub any_queue_same : (A : AnyQueue) (j : Job) (b : FieldBuffers) (most : ℕ) → compute_over (queue_kind A) j b most ≡ compute_over queue_in_order j b most
any_queue_same A j b most = job_same (queue_kind A) (any_kind A) j b most ∙ sym (job_same queue_in_order in_order j b most)
