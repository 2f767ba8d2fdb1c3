-- The refusals of a mesh come first, and a mesh that passed them stands in its buffers as the definition has it. Assumes nothing.
use Rattle.std.specs.Prelude.{Result}
use Prim.Native.Nat.{ℕ, suc}
use native.Mathlib.Omega.{arith}
use mathlib.Core.Bool.{false}
use mathlib.Core.List.{List, [], ◌∷◌}
use mathlib.Core.Path.{◌≡◌, refl, ap, ◌∙◌}
use lib.Ieee.{Float}
use Rattle.job_checks.specs.Job.{Job}
use Rattle.job_checks.specs.Refusals.{refusals, refusal_of}
use Rattle.job_checks.proofs.Any.{both_passed, passed_here}
use Rattle.job_checks.proofs.Sound.{refusals_numbered}
use Rattle.topology.specs.Edges.{shared_by_three}
use Rattle.field_work.specs.of_mesh.declared.OtherCounts.{OtherCounts}
use Rattle.field_work.specs.of_mesh.declared.Refusal.{Refusal}
use Rattle.field_work.specs.of_mesh.Topology.{MeshBuffers, filled, topology_of}
use Rattle.field_work.specs.of_mesh.Answer.{counts_in, mesh_refusals, mesh_refusal, afterwards, Answered}
use Rattle.field_work.specs.of_run_steps.Run.{WorkResult, refused}
use Rattle.field_work.specs.Work.{work_of}
use Rattle.finish.specs.Contents.{FieldBuffers}
use Rattle.cut_slots.specs.Slots.{cut_count, cut_to}
use Rattle.compute_spec.specs.Compute.{other_counts, work_slices_in, unless_refused, compute_by_heap}

-- ---- the definition
module _ (j : Job) (b : FieldBuffers) (most : ℕ) where
  abbrev worked : WorkResult
  worked = work_of j (filled j.vertices j.triangles j.flags b.mesh).vertex_words_held (work_slices_in b) (cut_to (cut_count b.cuts) b.cuts) most

  pub compute_refused : (k : ℕ) → mesh_refusal j (counts_in b.mesh (other_counts b)) ≡ suc k → compute_by_heap j b most ≡ refused (suc k)
  unfolding unless_refused
  compute_refused k h = ap (λ (n : ℕ). unless_refused n worked) h

  pub compute_worked : mesh_refusal j (counts_in b.mesh (other_counts b)) ≡ 0 → compute_by_heap j b most ≡ worked
  unfolding unless_refused
  compute_worked h = ap (λ (n : ℕ). unless_refused n worked) h

-- ---- the mesh
filled_then : (v : List Float) (triangles flags : List ℕ) (m after : MeshBuffers) (k : ℕ) → k ≡ 0 → shared_by_three triangles ≡ false → after ≡ afterwards k m (topology_of v triangles flags m) → after ≡ filled v triangles flags m
unfolding afterwards topology_of
filled_then v triangles flags m after k z s e = e ∙ rw (z, s) refl

pub built_is : (j : Job) (others : OtherCounts) (meshed : Result ℕ Refusal) (before built : MeshBuffers) → Answered j others meshed before built → mesh_refusal j (counts_in before others) ≡ 0 → built ≡ filled j.vertices j.triangles j.flags before
unfolding mesh_refusals
built_is j others meshed before built answered passed =
    let p = both_passed ((10, shared_by_three j.triangles) ∷ []) (refusals j (counts_in before others)) (refusals_numbered j (counts_in before others)) passed in
    filled_then j.vertices j.triangles j.flags before built (refusal_of j (counts_in before others)) p.0 (passed_here 10 (shared_by_three j.triangles) [] (omega arith) p.1) answered.buffers
