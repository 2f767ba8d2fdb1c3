-- The whole job, 01's `Handing in a job` and the Rust's `compute`: what it answers, and what every buffer holds then. Definitions only.
use Rattle.std.specs.Prelude.{ℕ, zero, suc, min, cond, List, ◌≡◌, leb, length, Float}
use Rattle.layout.specs.Layout.{reals_per_vertex, words_per_piece, reals_per_piece}
use Rattle.buffers.specs.Slots.{slots_of}
use Rattle.buffers.specs.Lent.{Lent, given, left}
use Rattle.windows.specs.Windows.{capacity_of}
use Rattle.job_checks.specs.Job.{Job, vertex_count, triangle_count, piece_count}
use Rattle.topology.specs.Edges.{edges}
use Rattle.field_work.specs.of_mesh.declared.OtherCounts.{OtherCounts}
use Rattle.field_work.specs.of_mesh.Topology.{MeshBuffers, before, after, filled}
use Rattle.field_work.specs.of_mesh.Answer.{counts_in, mesh_refusal}
use Rattle.cut_slots.specs.of_cut_lists.Buffers.{Cuts, cuts_before, cuts_after}
use Rattle.cut_slots.specs.Slots.{cut_count, cut_to}
use Rattle.finish.specs.of_offers.Walks.{edge_data}
use Rattle.field_work.specs.of_begin.Begin.{WorkSlices, work_slices, work_before, work_after}
use Rattle.field_work.specs.of_run_steps.Run.{WorkResult, refused, field}
use Rattle.field_work.specs.Work.{work_of}
use Rattle.finish.specs.Contents.{FieldBuffers, FieldContents}
use Rattle.finish.specs.Refused.{zero_field}
use Rattle.computed.specs.declared.Computed.{Computed}
use Rattle.computed.specs.declared.Computed.TheVariants.{Refused, Field}

-- ---- the buffers as they are lent
-- how many slots they have beside the mesh's
abbrev pub other_counts : FieldBuffers → OtherCounts
other_counts b = record {
  vertex_reals = slots_of (length b.vertex) reals_per_vertex;
  pieces = min (slots_of (length b.piece_words) words_per_piece) (slots_of (length b.piece_reals) reals_per_piece);
  windows = capacity_of (length b.words) (length b.reals);
  scratch = slots_of (length b.scratch) 1;
  other_scratch = slots_of (length b.other_scratch) 1;
}

-- put together of the mesh's, those that the work writes, the cut lists and the two scratch rows
abbrev pub field_buffers : MeshBuffers → WorkSlices → Cuts → List ℕ → List ℕ → FieldBuffers
field_buffers m s c scratch other = record {
  mesh = m;
  vertex = s.vertex;
  piece_words = s.piece_words;
  piece_reals = s.piece_reals;
  words = s.words;
  reals = s.reals;
  keys = s.keys;
  events = s.events;
  cuts = c;
  entry_words_held = s.entries;
  scratch = scratch;
  other_scratch = other;
}

-- at the call, and at the return
module _ (vertex_words_held edge_words_held : Lent ℕ) (edge_reals_held : Lent Float) (round triangle_words_held : Lent ℕ) (triangle_reals : Lent Float)
    (piece_words : Lent ℕ) (piece_reals vertex : Lent Float) (words : Lent ℕ) (reals keys : Lent Float) (events entry_words_held : Lent ℕ)
    (pts out keep next : Lent Float) (scratch other_scratch : Lent ℕ) where
  abbrev pub buffers_before : FieldBuffers
  buffers_before =
      field_buffers (before vertex_words_held edge_words_held edge_reals_held round triangle_words_held triangle_reals)
      (work_before piece_words piece_reals vertex words reals keys events entry_words_held) (cuts_before pts out keep next) (given scratch) (given other_scratch)

  abbrev pub buffers_after : FieldBuffers
  buffers_after =
      field_buffers (after vertex_words_held edge_words_held edge_reals_held round triangle_words_held triangle_reals)
      (work_after piece_words piece_reals vertex words reals keys events entry_words_held) (cuts_after pts out keep next) (left scratch) (left other_scratch)

-- those that the work writes beside the mesh's and the cut lists
abbrev pub work_slices_in : FieldBuffers → WorkSlices
work_slices_in b = work_slices b.piece_words b.piece_reals b.vertex b.words b.reals b.keys b.events b.entry_words_held

-- ---- what the job comes to
-- 1 to 10 come before the work
unfoldable pub unless_refused : ℕ → WorkResult → WorkResult
unless_refused zero r = r
unless_refused (suc k) r = refused (suc k)

-- 1 to 10 in order; then 11, the insertion of the pieces (12, 13, 14, 17), at most `most` steps (12, 13, 14) and 15; or the field after so many steps
abbrev pub compute_by_heap : Job → FieldBuffers → ℕ → WorkResult
compute_by_heap j b most =
    unless_refused (mesh_refusal j (counts_in b.mesh (other_counts b)))
    (work_of j (filled j.vertices j.triangles j.flags b.mesh).vertex_words_held (work_slices_in b) (cut_to (cut_count b.cuts) b.cuts) most)

-- ---- what every buffer holds then: as it was after 1 to 9, zeros after any other refusal, or the field
abbrev pub LeavesByHeap : Job → FieldBuffers → WorkResult → FieldBuffers → Type 0
LeavesByHeap j b (refused k) b' = b' ≡ cond (leb k 9) b (zero_field b)
LeavesByHeap j b (field x steps) b' =
    FieldContents (filled j.vertices j.triangles j.flags b.mesh) (edge_data j.vertices j.triangles) (length (edges j.triangles)) x.state x.entries j.kinds j.coords b b'

-- ---- the answer by value
unfoldable pub answer_by_heap : Job → WorkResult → Computed
answer_by_heap j (refused k) = Refused k
answer_by_heap j (field x steps) = Field (record {
  vertices = vertex_count j;
  triangles = triangle_count j;
  pieces = piece_count j;
  edges = length (edges j.triangles);
  windows = length x.state.wins;
  steps = steps;
})

-- The contract of `compute`, for every job and whatever the buffers hold: its answer, and what is left in b' of the buffers b.
pub record ComputesByHeap (j : Job) (b : FieldBuffers) (most : ℕ) (r : Computed) (b' : FieldBuffers) : Type 0 where
  pub answer : r ≡ answer_by_heap j (compute_by_heap j b most)
  pub leaves : LeavesByHeap j b (compute_by_heap j b most) b'
