-- What insertion leaves to the steps that follow: the mesh still stands in the buffers, and behind the windows made there are zeros. Assumes nothing.
use Rattle.std.specs.Prelude.{Result}
use Prim.Native.Nat.{ℕ, zero, suc, ◌*◌, ◌-◌}
use mathlib.Core.Path.{◌≡◌, ap, ◌∙◌}
use native.Mathlib.Omega.{arith}
use lib.ListN.{length, drop, replicate}
use Rattle.layout.specs.Layout.{words_per_window, reals_per_window}
use Rattle.float64.specs.Scalar.{zero64}
use Rattle.job_checks.specs.Job.{Job, vertex_count}
use Rattle.insert_sources.specs.of_mesh.declared.OtherCounts.{OtherCounts}
use Rattle.insert_sources.specs.of_mesh.declared.Refusal.{Refusal}
use Rattle.insert_sources.specs.of_mesh.Topology.{MeshBuffers}
use Rattle.insert_sources.specs.of_mesh.Answer.{counts_in, mesh_refusal, Answered}
use Rattle.insert_sources.specs.of_mesh_readers.Held.{HoldsMesh}
use Rattle.insert_sources.proofs.laws_of_mesh_readers.Mesh.{mesh_stays, mesh_entered}
use Rattle.insert_sources.specs.of_cut_lists.Buffers.{Cuts}
use Rattle.insert_sources.specs.of_insertion.Snapshots.{InsertSnapshot, at}
use Rattle.begin.specs.Begin.{WorkSlices}
use Rattle.insert_job.specs.Field.{FieldInserted}
use Rattle.insert_job.proofs.Begun.{begun_mesh}

drop_zeros : {A : Type 0} (z : A) (n m : ℕ) → drop n (replicate m z) ≡ replicate (m - n) z
drop_zeros z zero m = let e : m ≡ m - zero = omega arith in ap (λ (k : ℕ). replicate k z) e
drop_zeros z (suc n) zero = let e : zero ≡ zero - suc n = omega arith in ap (λ (k : ℕ). replicate k z) e
drop_zeros z (suc n) (suc m) = let e : m - n ≡ suc m - suc n = omega arith in drop_zeros z n m ∙ ap (λ (k : ℕ). replicate k z) e

module _ (j : Job) (m : MeshBuffers) (s : WorkSlices) (c : Cuts) (p : InsertSnapshot) (h : FieldInserted j m s c (at p)) where
  pub inserted_mesh : (others : OtherCounts) (r : Result ℕ Refusal) (before : MeshBuffers) → Answered j others r before m → mesh_refusal j (counts_in before others) ≡ 0
      → HoldsMesh j.vertices j.triangles (vertex_count j) p.trim.links.edges m.edge_reals_held p.entries.triangles m.triangle_reals
  inserted_mesh others r before answered passed =
      mesh_entered j.vertices j.triangles (vertex_count j) m.edge_reals_held m.triangle_reals p.trim.links.edges m.triangle_words_held p.entries.triangles h.kept
      (mesh_stays j.vertices j.triangles (vertex_count j) m.edge_reals_held m.triangle_reals (λ e. Unit {0}) m.triangle_words_held m.edge_words_held p.trim.links.edges h.untouched.edges
      (begun_mesh j others r before m answered passed))

  pub inserted_words : drop (words_per_window * p.trim.made) p.trim.links.words ≡ replicate (length s.words - words_per_window * p.trim.made) 0
  inserted_words = h.untouched.words ∙ drop_zeros 0 (words_per_window * p.trim.made) (length s.words)

  pub inserted_reals : drop (reals_per_window * p.trim.made) p.trim.reals ≡ replicate (length s.reals - reals_per_window * p.trim.made) zero64
  inserted_reals = h.untouched.reals ∙ drop_zeros zero64 (reals_per_window * p.trim.made) (length s.reals)
