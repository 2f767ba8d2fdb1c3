-- What a caller in C or Rust is told of a job whose pieces are inserted. Definitions only.
use Rattle.std.specs.Prelude.{ℕ, min, List, ◌≡◌, length, set, Result, Ok, Err}
use Rattle.layout.specs.Layout.{words_per_piece, reals_per_piece, reals_per_vertex, words_per_window, reals_per_window}
use Rattle.buffers.specs.Lack.{lack_number}
use Rattle.buffers.specs.Slots.{slots_of}
use Rattle.job_checks.specs.Job.{Job}
use Rattle.topology.specs.Edges.{edges}
use Rattle.cut_slots.specs.of_cut_lists.Buffers.{Cuts}
use Rattle.cut_slots.specs.Slots.{cut_count, cut_to}
use Rattle.insert_job.specs.of_mesh.declared.OtherCounts.{OtherCounts}
use Rattle.insert_job.specs.of_mesh.declared.Refusal.{Refusal}
use Rattle.insert_job.specs.of_mesh.Topology.{MeshBuffers, mesh_buffers}
use Rattle.insert_job.specs.of_mesh.Answer.{counts_in, mesh_refusal, Answered}
use Rattle.insert_job.specs.of_begin.Begin.{WorkSlices}
use Rattle.insert_job.specs.of_insertion.declared.InsertCounts.{InsertCounts}
use Rattle.insert_job.specs.declared.InsertRefusal.{InsertRefusal}
use Rattle.insert_job.specs.declared.InsertRefusal.TheVariants.{Wedge, NoSlot}
use Rattle.insert_job.specs.Field.{trim_slices, entry_slices}
use Rattle.insert_job.specs.Job.{InsertsJob}

-- the slots of slices of these lengths; as much scratch as there are windows
abbrev pub lent_counts : ℕ → ℕ → ℕ → ℕ → ℕ → OtherCounts
lent_counts pw pr vertex words reals =
    let windows = min (slots_of words words_per_window) (slots_of reals reals_per_window) in
    record {
      vertex_reals = slots_of vertex reals_per_vertex;
      pieces = min (slots_of pw words_per_piece) (slots_of pr reals_per_piece);
      windows = windows;
      scratch = windows;
      other_scratch = windows;
    }

abbrev pub lent_in : WorkSlices → OtherCounts
lent_in s = lent_counts (length s.piece_words) (length s.piece_reals) (length s.vertex) (length s.words) (length s.reals)

abbrev pub edges_told : Result ℕ Refusal → ℕ
edges_told (Ok n) = n
edges_told (Err e) = 0

-- the number that is answered, and what four numbers then hold, as far as they are lent
unfoldable pub insert_told : ℕ → Result InsertCounts InsertRefusal → List ℕ → ℕ × List ℕ
insert_told n (Err Wedge) t = (11, t)
insert_told n (Err (NoSlot lack)) t = (lack_number lack, t)
insert_told n (Ok counts) t = (0, set (set (set (set t 0 n) 1 counts.trim.made) 2 counts.trim.queued) 3 counts.entries)

-- a job j whose mesh was made in m, and slices s and c: what `insert_job` answers and leaves; of the mesh only the words of edges and triangles change
pub record InsertedIn (j : Job) (m : MeshBuffers) (s : WorkSlices) (c : Cuts) (told : List ℕ) (r : ℕ) (m' : MeshBuffers) (s' : WorkSlices) (told' : List ℕ) : Type 0 where
  pub answer : Result InsertCounts InsertRefusal
  pub inserts : InsertsJob j.vertices j.triangles j.kinds j.faces j.coords j.limit m s c answer s'.piece_words s'.piece_reals (trim_slices m' s') (entry_slices m' s')
  pub kept : m' ≡ mesh_buffers m.vertex_words_held m'.edge_words_held m.edge_reals_held m.round m'.triangle_words_held m.triangle_reals
  pub tells : (r, told') ≡ insert_told (length (edges j.triangles)) answer told

-- the mesh is refused by its number, and the slices beside it are as they were; or the pieces are inserted, whatever then stands in the cut lists
pub record InsertAnswers (j : Job) (m : MeshBuffers) (s : WorkSlices) (c : Cuts) (told : List ℕ) (r : ℕ) (m' : MeshBuffers) (s' : WorkSlices) (c' : Cuts) (told' : List ℕ) : Type 0 where
  pub answer : Result ℕ Refusal
  pub built : MeshBuffers
  pub mesh : Answered j (lent_in s) answer m built
  pub refused : (mesh_refusal j (counts_in m (lent_in s)) ≡ 0 → ⊥) → (r ≡ mesh_refusal j (counts_in m (lent_in s))) × ((m' ≡ built) × ((s' ≡ s) × ((c' ≡ c) × (told' ≡ told))))
  pub inserted : mesh_refusal j (counts_in m (lent_in s)) ≡ 0 → InsertedIn j built s (cut_to (cut_count c) c) told r m' s' told'
