-- What the work on a job answers and leaves. Definitions only.
use Rattle.std.specs.Prelude.{ℕ, List, ◌≡◌, length, Float, Result}
use Rattle.job_checks.specs.Job.{Job, job}
use Rattle.run_steps.specs.of_mesh.declared.OtherCounts.{OtherCounts}
use Rattle.run_steps.specs.of_mesh.declared.Refusal.{Refusal}
use Rattle.run_steps.specs.of_mesh.Topology.{MeshBuffers}
use Rattle.run_steps.specs.of_mesh.Answer.{counts_in, mesh_refusal, Answered}
use Rattle.windows.specs.Windows.{capacity_of}
use Rattle.run_steps.specs.of_cut_lists.Buffers.{Cuts}
use Rattle.run_steps.specs.of_trim_split.Running.{Untouched}
use Rattle.run_steps.specs.of_trim.Buffers.{Slices}
use Rattle.run_steps.specs.of_trim.Adding.{snapshot_at}
use Rattle.run_steps.specs.of_offers.Walks.{edge_data}
use Rattle.run_steps.specs.of_face_entries.Buffers.{EntryBuffers}
use Rattle.run_steps.specs.of_piece_ends.Table.{piece_words_of}
use Rattle.run_steps.specs.of_piece_ends.Directions.{piece_reals_of}
use Rattle.run_steps.specs.of_insertion.declared.InsertCounts.{InsertCounts}
use Rattle.run_steps.specs.of_insertion.Insertion.{Inserted}
use Rattle.run_steps.specs.of_insertion.Snapshots.{insert_snapshot, HoldsInserted}
use Rattle.run_steps.specs.of_begin.Begin.{WorkSlices}
use Rattle.run_steps.specs.of_insert_job.Field.{trim_slices, begun_job, no_counts, PiecesCounted}
use Rattle.run_steps.specs.declared.FieldWork.{FieldWork}
use Rattle.run_steps.specs.declared.FieldWork.TheVariants.{Refused, Done}
use Rattle.run_steps.specs.Run.{refused, field}
use Rattle.run_steps.specs.Contract.{WorkWithin}
use Rattle.field_work.specs.Work.{work_of, work_candidates}

-- a job j whose mesh stands in m, slices s and c as they are lent
module _ (j : Job) (m : MeshBuffers) (s : WorkSlices) (c : Cuts) (most : ℕ) where
  -- the buffers hold the definition's field: all windows made, the live windows of each edge, the queue, the vertices, the entries of faces; the mesh is as it was
  pub record FieldDone (n : InsertCounts) (steps : ℕ) (b' : Slices) (t' : EntryBuffers) : Type 0 where
    pub inserted : Inserted
    pub is : work_of j m.vertex_words_held s c most ≡ field inserted steps
    pub stands : HoldsInserted j.limit (edge_data j.vertices j.triangles) m.triangle_words_held (work_candidates j m.vertex_words_held s c most) inserted (insert_snapshot n b' t')
    pub untouched : Untouched (λ e. Unit {0}) (snapshot_at no_counts.trim (trim_slices m (begun_job j s))) (snapshot_at n.trim b')

  abbrev pub JobWorked : FieldWork → Slices → EntryBuffers → Type 0
  JobWorked (Refused k) b' t' = work_of j m.vertex_words_held s c most ≡ refused k
  JobWorked (Done n steps) b' t' = FieldDone n steps b' t'

-- the contract: of every job that `mesh::build` did not refuse and whose mesh stands in m
pub record WorksTo (v : List Float) (triangles kinds faces : List ℕ) (coords : List Float) (limit : Float) (m : MeshBuffers) (s : WorkSlices) (c : Cuts) (most : ℕ)
    (r : FieldWork) (piece-words' : List ℕ) (piece-reals' : List Float) (b' : Slices) (t' : EntryBuffers) : Type 0 where
  pub bounded : WorkWithin (capacity_of (length s.words) (length s.reals)) r
  pub pieces : piece-words' ≡ piece_words_of kinds coords (length s.piece_words)
  pub directions : piece-reals' ≡ piece_reals_of kinds coords (length s.piece_reals)
  pub works : (flags : List ℕ) (others : OtherCounts) (meshed : Result ℕ Refusal) (before : MeshBuffers)
      → Answered (job v triangles flags kinds faces coords limit) others meshed before m
      → mesh_refusal (job v triangles flags kinds faces coords limit) (counts_in before others) ≡ 0
      → PiecesCounted others s
      → JobWorked (job v triangles flags kinds faces coords limit) m s c most r b' t'
