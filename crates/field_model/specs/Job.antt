-- A whole job over any queue that pops the least event, with numbers of slots in place of slices: the Rust's `compute`, and 01's `Handing in a job`. Definitions only.
use Rattle.std.specs.Prelude.{ℕ, zero, suc, Bool, List, [], ◌++◌, eqb, get_or, Float, if◌then◌else◌}
use Rattle.windows.specs.declared.WindowRecord.{WindowRecord}
use Rattle.compute_spec.specs.of_trim_model.Windows.{Window}
use Rattle.compute_spec.specs.of_trim_model.Model.{Candidate}
use Rattle.compute_spec.specs.of_source_inserts.Inserts.{candidates_in}
use Rattle.compute_spec.specs.of_face_entries.Entries.{FaceEntry}
use Rattle.job_checks.specs.Job.{Job, vertex_count}
use Rattle.job_checks.specs.declared.BufferCounts.{BufferCounts}
use Rattle.compute_spec.specs.of_mesh.Answer.{mesh_refusal}
use Rattle.compute_spec.specs.of_begin.Begin.{vertex_reals}
use Rattle.compute_spec.specs.of_insert_job.Field.{inserts_of}
use Rattle.compute_spec.specs.of_insert_job.Job.{wedge_in}
use Rattle.field_model.specs.Queue.{QueueKind}
use Rattle.field_model.specs.Field.{FieldState, Reply, refused, gives, and_go, or_none, Slots, insert_all_in, loop_in, loop_candidates}

-- what the main loop leaves: `field.queue` is empty and goes. The last pass over `vertex` is in what the buffers hold (`LeavesOver`).
pub record Finished : Type 0 where
  pub wins : List WindowRecord
  pub live : ℕ → List Window
  pub vertex : List Float
  pub entries : List FaceEntry
  pub steps : ℕ  -- how many events were popped

abbrev pub finished : {S : Type 0} → FieldState S × ℕ → Reply Finished
finished x = gives (record { wins = x.0.wins; live = x.0.live; vertex = x.0.vertex; entries = x.0.entries; steps = x.1 })

-- `topo.pseudo`: a vertex's flag is 1
abbrev pub pseudo_of : Job → ℕ → Bool
pseudo_of j k = eqb (get_or j.flags k 0) 1

module _ (Q : QueueKind) (slots : Slots) (j : Job) where
  -- `Field { wins: vec![], on_edge: .., vertex: vec![f64::INFINITY; ..], emitted: .., in_face: HashMap::new(), .. queue: BinaryHeap::new(), .. }`
  abbrev pub empty_state : FieldState Q.State
  empty_state = record { wins = []; live = λ (e : ℕ). []; vertex = vertex_reals (vertex_count j) slots.vertex_reals_held; entries = []; queue = Q.start }

  -- the loop over `sources`: 12, 13, 14 and 17
  abbrev pub after_sources : Reply (FieldState Q.State)
  after_sources = insert_all_in Q slots j.limit (pseudo_of j) j.vertices j.triangles (inserts_of j) empty_state

  -- a job whose mesh passed, within `most` steps (01's allowance): 11, the loop over `sources`, the main loop with 12, 13, 14 and 15
  abbrev pub field_of : ℕ → Reply Finished
  field_of most =
      if wedge_in j then refused 11 else
      and_go after_sources (λ (f : FieldState Q.State). and_go (loop_in Q slots j.limit (pseudo_of j) j.vertices j.triangles most 0 f) finished)

  -- all candidates that it offers to edges, in order: those of its pieces, then those of the main loop
  abbrev pub job_candidates : ℕ → List Candidate
  job_candidates most =
      candidates_in (inserts_of j) ++ or_none (loop_candidates Q slots j.limit (pseudo_of j) j.vertices j.triangles most) after_sources

-- 1 to 10 come before it, each over the whole job
unfoldable pub unless_mesh : ℕ → Reply Finished → Reply Finished
unless_mesh zero r = r
unless_mesh (suc k) r = refused (suc k)

-- the whole job, in rooms of so many slots: `counts` of those that 9 asks for, `slots` of those that may run out
abbrev pub job_of : QueueKind → BufferCounts → Slots → Job → ℕ → Reply Finished
job_of Q counts slots j most = unless_mesh (mesh_refusal j counts) (field_of Q slots j most)
