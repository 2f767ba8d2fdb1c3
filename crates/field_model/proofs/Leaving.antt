-- What `compute` answers and leaves in its buffers, by the job over any queue and by the heap's buffers: computes_over, computes_heaped. Assumes nothing.
use Prim.Native.Nat.{ℕ}
use mathlib.Core.List.{List}
use mathlib.Core.Path.{◌≡◌, refl, sym, ap, subst, ◌∙◌}
use lib.ListN.{length}
use lib.Ieee.{Float}
use Rattle.job_checks.specs.Job.{Job}
use Rattle.topology.specs.Edges.{edges}
use Rattle.compute_spec.specs.of_mesh.Topology.{MeshBuffers, filled}
use Rattle.compute_spec.specs.of_trim_state.State.{State, EdgeData}
use Rattle.compute_spec.specs.of_offers.Walks.{edge_data}
use Rattle.compute_spec.specs.of_face_entries.Entries.{FaceEntry}
use Rattle.compute_spec.specs.of_contents.Contents.{words_of, reals_of_all}
use Rattle.compute_spec.specs.of_last_pass.Lowered.{lowered_all}
use Rattle.compute_spec.specs.of_run_steps.Run as run
use Rattle.compute_spec.specs.of_run_steps.Run.{WorkResult}
use Rattle.compute_spec.specs.of_finish.Contents.{edges_with, FieldBuffers, FieldContents}
use Rattle.computed.specs.declared.Computed.{Computed}
use Rattle.compute_spec.specs.Compute.{compute_by_heap, LeavesByHeap, answer_by_heap, ComputesByHeap}
use Rattle.field_model.specs.Queue.{QueueKind, LeastFirst}
use Rattle.field_model.specs.Field.{Reply}
use Rattle.field_model.specs.Job.{Finished}
use Rattle.field_model.specs.Lent.{answer_over, emptied, LeavesOver, ComputesOver, finished_of}
use Rattle.field_model.proofs.Whole.{job_same}

-- the heap's buffers are in no part of what a field's buffers hold
module _ (built : MeshBuffers) (mesh : EdgeData) (edges : ℕ) (s t : State) (xs : List FaceEntry) (kinds : List ℕ) (coords : List Float) (b b' : FieldBuffers) where
  contents_same : s.wins ≡ t.wins → s.live ≡ t.live → s.stock.vertex ≡ t.stock.vertex → FieldContents built mesh edges s xs kinds coords b b' → FieldContents built mesh edges t xs kinds coords b b'
  contents_same wins live vertex h = record {
    vertex_words_held = h.vertex_words_held;
    edge_words_held = h.edge_words_held ∙ ap (edges_with built.edge_words_held) live;
    edge_reals_held = h.edge_reals_held;
    round = h.round;
    triangle_words_held = h.triangle_words_held;
    triangle_reals = h.triangle_reals;
    vertex = h.vertex ∙ (λ i. lowered_all edges mesh (live i) (vertex i));
    piece_words = h.piece_words;
    piece_reals = h.piece_reals;
    words = h.words ∙ (λ i. words_of (length b.words) (wins i) (live i));
    reals = h.reals ∙ ap (reals_of_all (length b.reals)) wins;
    keys = h.keys;
    events = h.events;
    cuts = h.cuts;
    entry_words_held = h.entry_words_held;
    scratch = h.scratch;
    other_scratch = h.other_scratch;
  }

module _ (j : Job) (b b' : FieldBuffers) where
  abbrev Holds : State → List FaceEntry → Type 0
  Holds s xs = FieldContents (filled j.vertices j.triangles j.flags b.mesh) (edge_data j.vertices j.triangles) (length (edges j.triangles)) s xs j.kinds j.coords b b'

  held_same : (s t : State) (xs : List FaceEntry) → s.wins ≡ t.wins → s.live ≡ t.live → s.stock.vertex ≡ t.stock.vertex → Holds s xs → Holds t xs
  held_same s t xs = contents_same (filled j.vertices j.triangles j.flags b.mesh) (edge_data j.vertices j.triangles) (length (edges j.triangles)) s t xs j.kinds j.coords b b'

  without_queue : (r : WorkResult) → LeavesByHeap j b r b' → LeavesOver j b (finished_of r) b'
  unfolding finished_of
  without_queue (run.refused k) h = h
  without_queue (run.field x steps) h = held_same x.state (emptied (record { wins = x.state.wins; live = x.state.live; vertex = x.state.stock.vertex; entries = x.entries; steps = steps })) x.entries refl refl refl h

  with_queue_lem : (r : WorkResult) → LeavesOver j b (finished_of r) b' → LeavesByHeap j b r b'
  unfolding finished_of
  with_queue_lem (run.refused k) h = h
  with_queue_lem (run.field x steps) h = held_same (emptied (record { wins = x.state.wins; live = x.state.live; vertex = x.state.stock.vertex; entries = x.entries; steps = steps })) x.state x.entries refl refl refl h

same_answer : (j : Job) (r : WorkResult) → answer_by_heap j r ≡ answer_over j (finished_of r)
unfolding answer_by_heap answer_over finished_of
same_answer j (run.refused k) = refl
same_answer j (run.field x steps) = refl

-- for every queue: whoever computes by the heap's buffers computes by it, and the other way round
module _ (Q : QueueKind) (L : LeastFirst Q) (j : Job) (b : FieldBuffers) (most : ℕ) (r : Computed) (b' : FieldBuffers) where
  pub computes_over : ComputesByHeap j b most r b' → ComputesOver Q j b most r b'
  computes_over h = record {
    answer = h.answer ∙ same_answer j (compute_by_heap j b most) ∙ ap (answer_over j) (sym (job_same Q L j b most));
    leaves = subst (λ (w : Reply Finished). LeavesOver j b w b') (sym (job_same Q L j b most)) (without_queue j b b' (compute_by_heap j b most) h.leaves);
  }

  pub computes_heaped : ComputesOver Q j b most r b' → ComputesByHeap j b most r b'
  computes_heaped h = record {
    answer = h.answer ∙ ap (answer_over j) (job_same Q L j b most) ∙ sym (same_answer j (compute_by_heap j b most));
    leaves = with_queue_lem j b b' (compute_by_heap j b most) (subst (λ (w : Reply Finished). LeavesOver j b w b') (job_same Q L j b most) h.leaves);
  }
