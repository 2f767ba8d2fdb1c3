-- What `insert_job` answers and leaves. Definitions only.
use Rattle.std.specs.Prelude.{ℕ, ◌≤◌, Bool, true, false, List, ◌≡◌, length, Float, Result, Ok, Err}
use Rattle.buffers.specs.declared.Lack.{Lack}
use Rattle.job_checks.specs.Job.{Job, job}
use Rattle.insert_sources.specs.of_mesh.declared.OtherCounts.{OtherCounts}
use Rattle.insert_sources.specs.of_mesh.declared.Refusal.{Refusal}
use Rattle.insert_sources.specs.of_mesh.Topology.{MeshBuffers}
use Rattle.insert_sources.specs.of_mesh.Answer.{counts_in, mesh_refusal, Answered}
use Rattle.windows.specs.Windows.{capacity_of}
use Rattle.insert_sources.specs.of_cut_lists.Buffers.{Cuts}
use Rattle.insert_sources.specs.of_trim.Buffers.{Slices}
use Rattle.insert_sources.specs.of_face_entries.Buffers.{EntryBuffers}
use Rattle.begin.specs.of_piece_ends.Table.{piece_words_of}
use Rattle.begin.specs.of_piece_ends.Directions.{piece_reals_of}
use Rattle.insert_sources.specs.of_wedge_refusal.Wedge.{any_wedge}
use Rattle.insert_sources.specs.of_insertion.declared.InsertCounts.{InsertCounts}
use Rattle.insert_sources.specs.of_insertion.Snapshots.{insert_end}
use Rattle.begin.specs.Begin.{WorkSlices}
use Rattle.insert_job.specs.declared.InsertRefusal.{InsertRefusal}
use Rattle.insert_job.specs.declared.InsertRefusal.TheVariants.{Wedge, NoSlot}
use Rattle.insert_job.specs.Field.{PiecesCounted, FieldInserted}

-- that of a job that doesn't meet 11
abbrev pub job_answer : Result InsertCounts Lack → Result InsertCounts InsertRefusal
job_answer (Err lack) = Err (NoSlot lack)
job_answer (Ok n) = Ok n

-- 11
abbrev pub wedge_in : Job → Bool
wedge_in j = any_wedge j.vertices j.triangles j.kinds j.faces j.coords

-- a job j whose mesh stands in m, slices s and c as they are lent: its answer, and what the buffers hold then
abbrev pub JobInserted : Job → MeshBuffers → WorkSlices → Cuts → Result InsertCounts InsertRefusal → Slices → EntryBuffers → Type 0
JobInserted j m s c (Err Wedge) b' t' = wedge_in j ≡ true
JobInserted j m s c (Err (NoSlot lack)) b' t' = (wedge_in j ≡ false) × FieldInserted j m s c (insert_end (Err lack) b' t')
JobInserted j m s c (Ok n) b' t' = (wedge_in j ≡ false) × FieldInserted j m s c (insert_end (Ok n) b' t')

-- no more windows are made than there are slots for
abbrev pub JobWithin : ℕ → Result InsertCounts InsertRefusal → Type 0
JobWithin windows (Err Wedge) = Unit {0}
JobWithin windows (Err (NoSlot lack)) = Unit {0}
JobWithin windows (Ok n) = n.trim.made ≤ windows

-- the contract: of every job that `mesh::build` did not refuse and whose mesh stands in m
pub record InsertsJob (v : List Float) (triangles kinds faces : List ℕ) (coords : List Float) (limit : Float) (m : MeshBuffers) (s : WorkSlices) (c : Cuts)
    (r : Result InsertCounts InsertRefusal) (piece-words' : List ℕ) (piece-reals' : List Float) (b' : Slices) (t' : EntryBuffers) : Type 0 where
  pub bounded : JobWithin (capacity_of (length s.words) (length s.reals)) r
  pub pieces : piece-words' ≡ piece_words_of kinds coords (length s.piece_words)
  pub directions : piece-reals' ≡ piece_reals_of kinds coords (length s.piece_reals)
  pub inserts : (flags : List ℕ) (others : OtherCounts) (meshed : Result ℕ Refusal) (before : MeshBuffers)
      → Answered (job v triangles flags kinds faces coords limit) others meshed before m
      → mesh_refusal (job v triangles flags kinds faces coords limit) (counts_in before others) ≡ 0
      → PiecesCounted others s
      → JobInserted (job v triangles flags kinds faces coords limit) m s c r b' t'
