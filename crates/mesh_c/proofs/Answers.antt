-- What the answers of the mesh become as one number. Assumes nothing.
use Prim.Native.Nat.{ℕ, zero, suc, ◌*◌}
use mathlib.Core.Path.{◌≡◌, refl, sym, ap, ◌∙◌}
use native.Mathlib.Omega.{arith}
use lib.ListN.{length}
use Rattle.job_checks.specs.Job.{Job}
use Rattle.topology.specs.Edges.{edges}
use Rattle.std.specs.Prelude.{Result, Ok, Err}
use Rattle.mesh.specs.declared.Refusal.{Refusal}
use Rattle.mesh.specs.Topology.{MeshBuffers}
use Rattle.mesh.proofs.Fields.{same_number}
use Rattle.mesh.specs.Answer.{meshed_number, counts_in, mesh_refusal, Answered}
use Rattle.mesh_c.specs.Exports.{no_others, refusal_or_count, PackedAnswer}

not_refused : {m : Result ℕ Refusal} {n : ℕ} {r : Refusal} → m ≡ Ok n → m ≡ Err r → ⊥
not_refused e f = let z : ◌≡◌ {A = ℕ} 0 1 = cc in omega arith

-- a number that is no refusal's, and one that is
unrefused : (r n k : ℕ) → r ≡ 0 → k ≡ n → k ≡ refusal_or_count r n
unfolding refusal_or_count
unrefused r n k e f = rw e f

refused : (r n k : ℕ) → (r ≡ 0 → ⊥) → k ≡ r → 4_294_967_296 * k ≡ refusal_or_count r n
unfolding refusal_or_count
refused zero n k e f = absurd (e refl)
refused (suc r) n k e f = ap (λ (x : ℕ). 4_294_967_296 * x) f

module _ (j : Job) (m : Result ℕ Refusal) (before after : MeshBuffers) (a : Answered j no_others m before after) where
  -- the refusal of the answer
  told : (x : Result ℕ Refusal) → m ≡ x → meshed_number x ≡ mesh_refusal j (counts_in before no_others)
  told x e = ap meshed_number (sym e) ∙ a.number

  pub packed_edges : (n : ℕ) → m ≡ Ok n → PackedAnswer j n before after
  packed_edges n e =
      let z : mesh_refusal j (counts_in before no_others) ≡ 0 = sym (told (Ok n) e) in
      record {
        number = unrefused (mesh_refusal j (counts_in before no_others)) (length (edges j.triangles)) n z (same_number e (a.edge_count_held z));
        buffers = a.buffers;
      }

  pub packed_refused : (r : Refusal) (k : ℕ) → m ≡ Err r → k ≡ meshed_number m → PackedAnswer j (4_294_967_296 * k) before after
  packed_refused r k e f =
      record {
        number = refused (mesh_refusal j (counts_in before no_others)) (length (edges j.triangles)) k (λ z. not_refused (a.edge_count_held z) e) (f ∙ a.number);
        buffers = a.buffers;
      }
