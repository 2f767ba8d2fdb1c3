-- The whole job in buffers as they are lent: how many slots they have, what the job comes to, and what every buffer holds then. Definitions only.
use Rattle.std.specs.Prelude.{ℕ, min, cond, List, [], ◌≡◌, leb, length}
use Rattle.layout.specs.Layout.{words_per_event}
use Rattle.buffers.specs.Slots.{slots_of}
use Rattle.windows.specs.Windows.{capacity_of}
use Rattle.heap.specs.Queue.{queue}
use Rattle.actions.specs.Actions.{stock}
use Rattle.compute_spec.specs.of_trim_model.Model.{Candidate}
use Rattle.compute_spec.specs.of_trim_state.State.{State}
use Rattle.job_checks.specs.Job.{Job, vertex_count, triangle_count, piece_count}
use Rattle.topology.specs.Edges.{edges}
use Rattle.compute_spec.specs.of_mesh.Topology.{filled}
use Rattle.compute_spec.specs.of_mesh.Answer.{counts_in}
use Rattle.compute_spec.specs.of_offers.Walks.{edge_data}
use Rattle.compute_spec.specs.of_face_entries.Buffers.{entry_capacity}
use Rattle.compute_spec.specs.of_cut_slots.Slots.{cut_count}
use Rattle.compute_spec.specs.of_run_steps.Run as run
use Rattle.compute_spec.specs.of_run_steps.Run.{WorkResult}
use Rattle.compute_spec.specs.of_finish.Contents.{FieldBuffers, FieldContents}
use Rattle.compute_spec.specs.of_finish.Refused.{zero_field}
use Rattle.compute_spec.specs.Compute.{other_counts}
use Rattle.computed.specs.declared.Computed.{Computed}
use Rattle.computed.specs.declared.Computed.TheVariants as computed
use Rattle.field_model.specs.Queue.{QueueKind}
use Rattle.field_model.specs.Field.{Reply, refused, gives, Slots}
use Rattle.field_model.specs.Job.{Finished, job_of, job_candidates}

-- 01's counts of the rooms whose slots run out
abbrev pub slots_in : FieldBuffers → Slots
slots_in b = record {
  windows = capacity_of (length b.words) (length b.reals);
  events = min (slots_of (length b.events) words_per_event) (slots_of (length b.keys) 1);
  cuts = cut_count b.cuts;
  entries = entry_capacity (length b.entry_words_held);
  vertex_reals_held = length b.vertex;
}

-- the job over a queue, within `most` steps
abbrev pub compute_over : QueueKind → Job → FieldBuffers → ℕ → Reply Finished
compute_over Q j b most = job_of Q (counts_in b.mesh (other_counts b)) (slots_in b) j most

-- all candidates that a job whose mesh passed offers to edges: demand 3 is of these
abbrev pub candidates_over : QueueKind → Job → FieldBuffers → ℕ → List Candidate
candidates_over Q j b most = job_candidates Q (slots_in b) j most

-- ---- what it answers, and what every buffer holds then: as it was after 1 to 9, zeros after any other refusal, or the field
unfoldable pub answer_over : Job → Reply Finished → Computed
answer_over j (refused k) = computed.Refused k
answer_over j (gives x) = computed.Field (record {
  vertices = vertex_count j;
  triangles = triangle_count j;
  pieces = piece_count j;
  edges = length (edges j.triangles);
  windows = length x.wins;
  steps = x.steps;
})

-- with a queue of no events in no slots: what a field's buffers hold does not depend on it
abbrev pub emptied : Finished → State
emptied x = record { wins = x.wins; live = x.live; stock = stock (length x.wins) 0 (queue [] []) x.vertex }

abbrev pub LeavesOver : Job → FieldBuffers → Reply Finished → FieldBuffers → Type 0
LeavesOver j b (refused k) b' = b' ≡ cond (leb k 9) b (zero_field b)
LeavesOver j b (gives x) b' =
    FieldContents (filled j.vertices j.triangles j.flags b.mesh) (edge_data j.vertices j.triangles) (length (edges j.triangles)) (emptied x) x.entries j.kinds j.coords b b'

-- The contract of `compute` by the job over a queue, for every job and whatever the buffers hold: its answer, and what is left in b' of the buffers b.
pub record ComputesOver (Q : QueueKind) (j : Job) (b : FieldBuffers) (most : ℕ) (r : Computed) (b' : FieldBuffers) : Type 0 where
  pub answer : r ≡ answer_over j (compute_over Q j b most)
  pub leaves : LeavesOver j b (compute_over Q j b most) b'

-- ---- the definition over the heap's buffers: the same refusal, or all but the queue
unfoldable pub finished_of : WorkResult → Reply Finished
finished_of (run.refused k) = refused k
finished_of (run.field x steps) = gives (record { wins = x.state.wins; live = x.state.live; vertex = x.state.stock.vertex; entries = x.entries; steps = steps })
