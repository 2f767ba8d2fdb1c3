-- What the work and its finish make of a job whose mesh was answered. Definitions only.
use Rattle.std.specs.Prelude.{ℕ, ◌*◌, ◌/◌, ◌≤◌, ◌<◌, List, ◌≡◌, length, Float, Result}
use Rattle.layout.specs.Layout.{words_per_piece, words_per_edge}
use Rattle.buffers.specs.Slots.{slots_of}
use Rattle.job_checks.specs.Job.{Job, job}
use Rattle.topology.specs.Edges.{edges}
use Rattle.compute_spec.specs.of_mesh.declared.Refusal.{Refusal}
use Rattle.compute_spec.specs.of_mesh.Topology.{MeshBuffers}
use Rattle.compute_spec.specs.of_mesh.Answer.{counts_in, mesh_refusal, Answered}
use Rattle.compute_spec.specs.of_cut_lists.Buffers.{Cuts}
use Rattle.compute_spec.specs.of_begin.Begin.{WorkSlices}
use Rattle.compute_spec.specs.of_zero_buffers.ZeroIf.{zero_words}
use Rattle.compute_spec.specs.of_insertion.declared.InsertCounts.{InsertCounts}
use Rattle.compute_spec.specs.of_insertion.Insertion.{Inserted}
use Rattle.compute_spec.specs.of_run_steps.declared.FieldWork.{FieldWork}
use Rattle.compute_spec.specs.of_run_steps.declared.FieldWork.TheVariants.{Refused, Done}
use Rattle.compute_spec.specs.of_run_steps.Run.{refused, field}
use Rattle.compute_spec.specs.of_finish.Contents.{FieldBuffers}
use Rattle.compute_spec.specs.Compute.{other_counts, field_buffers, compute_by_heap, LeavesByHeap}

-- where the mesh was not refused, the lengths are those of a job within its bounds, and so many edges have slots
abbrev pub WorkFits : ℕ → ℕ → List Float → List ℕ → List ℕ → List ℕ → Type 0
WorkFits number count v kinds pw ew =
    number ≡ 0 → (length v / 3 ≤ 65535) × ((length kinds ≤ 65535) × ((words_per_piece * length kinds ≤ length pw) × (count ≤ slots_of (length ew) words_per_edge)))

module _ (j : Job) (b : FieldBuffers) (most : ℕ) where
  -- the definition's field stands in b', so many windows being made
  pub record FieldMade (n : InsertCounts) (steps : ℕ) (b' : FieldBuffers) : Type 0 where
    pub inserted : Inserted
    pub is : compute_by_heap j b most ≡ field inserted steps
    pub made : n.trim.made ≡ length inserted.state.wins
    pub leaves : LeavesByHeap j b (field inserted steps) b'

  -- or the definition refuses the job, by none of 1 to 9
  abbrev pub MadeOrRefused : FieldWork → FieldBuffers → Type 0
  MadeOrRefused (Refused k) b' = (compute_by_heap j b most ≡ refused k) × (9 < k)
  MadeOrRefused (Done n steps) b' = FieldMade n steps b'

-- the contract: m, s and c at the call, m', s' and c' at the return; the mesh was refused by this number, or it has `count` edges and stands in m
pub record MakesField (number count : ℕ) (v : List Float) (triangles kinds faces : List ℕ) (coords : List Float) (limit : Float) (m : MeshBuffers) (s : WorkSlices) (c : Cuts) (most : ℕ)
    (r : FieldWork) (m' : MeshBuffers) (s' : WorkSlices) (c' : Cuts) : Type 0 where
  -- then nothing is done
  pub passes_on : 0 < number → (r ≡ Refused number) × ((m' ≡ m) × ((s' ≡ s) × (c' ≡ c)))
  -- whatever the mesh's buffers and the two scratch rows were before
  pub makes : number ≡ 0 → (flags : List ℕ) (meshed : Result ℕ Refusal) (before : MeshBuffers) (scratch other : List ℕ)
      → let j = job v triangles flags kinds faces coords limit in
      let b = field_buffers before s c scratch other in
      Answered j (other_counts b) meshed before m
      → mesh_refusal j (counts_in before (other_counts b)) ≡ 0
      → count ≡ length (edges triangles)
      → MadeOrRefused j b most r (field_buffers m' s' c' (zero_words scratch) (zero_words other))
