-- The ends of the edges of a job whose mesh passed: their numbers are small, and the vertices' words have their flags as the job has them. Assumes nothing.
use Rattle.std.specs.Prelude.{Ok}
use Prim.Native.Nat.{ℕ, zero, suc, ◌+◌, ◌*◌, ◌/◌, ◌<◌}
use native.Mathlib.Omega.{arith}
use mathlib.Core.Bool.{Bool, true, false}
use mathlib.Core.List.{List, [], ◌∷◌}
use mathlib.Core.Path.{◌≡◌, refl, sym, ap, subst, ◌∙◌}
use borrow.Author.Tests.{ltb-true, ltb-false}
use lib.Dec.{ltb, eqb}
use lib.ListN.{length, get_or, replicate, get_or-eq_default}
use lib.Ieee.{Float}
use Rattle.job_checks.specs.Job.{Job, vertex_count}
use Rattle.job_checks.specs.Refusals.{refusals, refusal_of}
use Rattle.job_checks.specs.Sound.{Sound}
use Rattle.job_checks.proofs.Any.{both_passed, passed_here}
use Rattle.job_checks.proofs.Sound.{refusals_numbered, sound}
use Rattle.topology.specs.Edges.{EndPair, no_edge, edges, shared_by_three}
use Rattle.topology.proofs.Checked.{edge_ends}
use Rattle.vertex_faces.specs.Ranges.{with_ranges, with_flags}
use Rattle.compute_spec.specs.of_mesh.declared.OtherCounts.{OtherCounts}
use Rattle.compute_spec.specs.of_mesh.Topology.{MeshBuffers, vertex_words, filled, topology_of}
use Rattle.compute_spec.specs.of_mesh.Answer.{counts_in, mesh_refusals, mesh_refusal, afterwards, Answered}
use Rattle.compute_spec.proofs.laws_of_mesh.Fields.{held}
use Rattle.compute_spec.specs.of_offers.Walks.{edge_data}
use Rattle.field_model.specs.Job.{pseudo_of}
use Rattle.field_model.proofs.Playing.{Agreed}

filled_left : (v : List Float) (triangles flags : List ℕ) (m : MeshBuffers) (k : ℕ) → k ≡ 0 → shared_by_three triangles ≡ false → filled v triangles flags m ≡ afterwards k m (topology_of v triangles flags m)
unfolding afterwards topology_of
filled_left v triangles flags m k z s = rw (z, s) refl

zeros : (n i : ℕ) → get_or (replicate {A = ℕ} n 0) i 0 ≡ 0
zeros zero i = refl
zeros (suc n) zero = refl
zeros (suc n) (suc i) = zeros n i

-- where there is no vertex there is no flag
no_flag : (v : List Float) (triangles flags : List ℕ) (m : MeshBuffers) → length v / 3 ≡ 0 → (i : ℕ) → get_or (filled v triangles flags m).vertex_words_held i 0 ≡ 0
unfolding filled vertex_words with_ranges with_flags
no_flag v triangles flags m none i = rw none (zeros (length m.vertex_words_held) i)

module _ (j : Job) (others : OtherCounts) (before : MeshBuffers) (passed : mesh_refusal j (counts_in before others) ≡ 0) where
  abbrev built : MeshBuffers
  built = filled j.vertices j.triangles j.flags before

  both : (refusal_of j (counts_in before others) ≡ 0) × (shared_by_three j.triangles ≡ false)
  unfolding mesh_refusals
  both =
      let p = both_passed ((10, shared_by_three j.triangles) ∷ []) (refusals j (counts_in before others)) (refusals_numbered j (counts_in before others)) passed in
      (p.0, passed_here 10 (shared_by_three j.triangles) [] (omega arith) p.1)

  checked : Sound j (counts_in before others)
  checked = sound j (counts_in before others) both.0

  answered : Answered j others (Ok (length (edges j.triangles))) before built
  answered = record {
    number = sym passed;
    edge_count_held = λ h. refl;
    buffers = filled_left j.vertices j.triangles j.flags before (refusal_of j (counts_in before others)) both.0 both.1;
  }

  abbrev Here : ℕ → Type 0
  Here = Agreed (pseudo_of j) built.vertex_words_held

  flagged : (k : ℕ) → get_or built.vertex_words_held (3 * k + 2) 0 ≡ get_or j.flags k 0 → k < 4294967296 → Here k
  flagged k is small = (small, ap (λ (n : ℕ). eqb n 1) (sym is))

  there : (k : ℕ) → k < vertex_count j → Here k
  there k l =
      flagged k ((held j others (Ok (length (edges j.triangles))) before built answered (length (edges j.triangles)) refl).flag k l) (omega (arith, l, checked.whole.few_vertices))

  -- what stands where there is no edge has vertex 0 for its ends
  first : (n : ℕ) → vertex_count j ≡ n → Here 0
  first zero is =
      flagged 0 (no_flag j.vertices j.triangles j.flags before is 2 ∙ sym (get_or-eq_default j.flags 0 (omega (arith, checked.whole.flag_each, is)))) (omega arith)
  first (suc n) is = there 0 (omega (arith, is))

  pub ends_agreed : (e : ℕ) → Here ((edge_data j.vertices j.triangles).low e) × Here ((edge_data j.vertices j.triangles).high e)
  ends_agreed e = go (ltb e (length (edges j.triangles))) refl where
    go : (b : Bool) → ltb e (length (edges j.triangles)) ≡ b → Here (get_or (edges j.triangles) e no_edge).low × Here (get_or (edges j.triangles) e no_edge).high
    go true l =
        let t = edge_ends j.triangles (vertex_count j) checked.triangles e (ltb-true e (length (edges j.triangles)) l) in
        (there (get_or (edges j.triangles) e no_edge).low (omega (arith, t.0, t.1)), there (get_or (edges j.triangles) e no_edge).high t.1)
    go false l =
        let none : get_or (edges j.triangles) e no_edge ≡ no_edge = get_or-eq_default (edges j.triangles) no_edge (ltb-false e (length (edges j.triangles)) l) in
        subst (λ (x : EndPair). Here x.low × Here x.high) (sym none) (first (vertex_count j) refl, first (vertex_count j) refl)
