-- The job's answer: refused by the checks, by the table, or with a topology; and what a job that passed hands on. Assumes nothing.
use Prim.Native.Nat.{ℕ, zero, suc, ◌/◌, ◌<◌, ◌≤◌}
use mathlib.Core.Path.{◌≡◌, refl, sym, ap, ◌∙◌}
use mathlib.Core.Bool.{true, false}
use mathlib.Core.List.{List, [], ◌∷◌}
use native.Mathlib.Nat.{not-suc-le-zero}
use native.Mathlib.Omega.{arith}
use lib.ListN.{length}
use lib.Ieee.{Float}
use Rattle.job_checks.specs.declared.BufferCounts.{BufferCounts}
use Rattle.job_checks.specs.declared.Refusal.{Refusal as JobRefusal}
use Rattle.job_checks.proofs.Numbers.{refused}
use Rattle.job_checks.specs.Any.{first_of}
use Rattle.job_checks.specs.Job.{Job, piece_count}
use Rattle.job_checks.specs.Refusals.{max_vertices, refusal_number, refusals, refusal_of}
use Rattle.job_checks.specs.Sound.{ValidTriangles, LongEnough, Sound}
use Rattle.job_checks.proofs.Any.{first_holds, first_after, first_none, first_within, first_past}
use Rattle.job_checks.proofs.Sound.{refusals_numbered, sound}
use Rattle.topology.specs.Edges.{shared_by_three}
use Rattle.edge_table.specs.declared.ThirdFace.{ThirdFace as Third}
use Rattle.std.specs.Prelude.{Result, Ok, Err}
use Rattle.edge_table.proofs.Reading.{mesh_of_lem}
use Rattle.mesh.specs.declared.OtherCounts.{OtherCounts}
use Rattle.std.specs.Result.{IsErrAnd}
use Rattle.std.proofs.lemmas.Result.{err_from_is_err_and}
use Rattle.mesh.specs.declared.Refusal.{Refusal}
use Rattle.mesh.specs.declared.Refusal.TheVariants as refusal
use Rattle.mesh.specs.Topology.{MeshBuffers, Fits, topology_of, MadeTopology}
use Rattle.mesh.specs.Answer.{counts_in, mesh_refusals, mesh_refusal, afterwards, Answered}
use Rattle.mesh.proofs.Making.{is_third, has_edges}

stays : (k : ℕ) (m t : MeshBuffers) → 0 < k → m ≡ afterwards k m t
unfolding afterwards
stays zero m t l = absurd (not-suc-le-zero l)
stays (suc k) m t l = refl

changes : (k : ℕ) (m t : MeshBuffers) → k ≡ 0 → t ≡ afterwards k m t
unfolding afterwards
changes k m t e = rw e

-- what `topology` asks, from the checks 1 to 3 and 9 alone
pub fits_from : (v : List Float) (triangles : List ℕ) (m : MeshBuffers) (others : OtherCounts) (pieces : ℕ) → ValidTriangles triangles (length v / 3) → length v / 3 ≤ max_vertices → LongEnough (length v / 3) (length triangles / 3) pieces (counts_in m others)
    → Fits v triangles (length m.vertex_words_held) (length m.edge_words_held) (length m.edge_reals_held) (length m.round) (length m.triangle_words_held) (length m.triangle_reals)
fits_from v triangles m others pieces valid few long =
    record {
      mesh = mesh_of_lem triangles (length v / 3) valid few;
      vertices_fit = omega (arith, long.vertices_fit);
      edges_fit = omega (arith, long.edges_fit, valid.whole);
      edge_reals_fit = omega (arith, long.edges_fit, valid.whole);
      round_fits = omega (arith, long.vertex_faces_fit, valid.whole);
      triangles_fit = omega (arith, long.triangles_fit, valid.whole);
      triangle_reals_fit = omega (arith, long.triangles_fit, valid.whole);
    }

module _ (j : Job) (others : OtherCounts) (before : MeshBuffers) where
  -- refused by the checks, with nothing changed
  pub answer_refused : (r : JobRefusal) → refusal_number (Err r) ≡ refusal_of j (counts_in before others) → Answered j others (Err (refusal.Job r)) before before
  unfolding mesh_refusals
  answer_refused r e =
      let k : 0 < refusal_of j (counts_in before others) = rw e at (refused r) in
      let same = first_within ((10, shared_by_three j.triangles) ∷ []) (refusals j (counts_in before others)) k in
      record {
        number = e ∙ sym same;
        edge_count_held = λ z. absurd (omega (arith, sym same ∙ z));
        buffers = stays (refusal_of j (counts_in before others)) before _ k;
      }

  -- passed
  module _ (passed : refusal_of j (counts_in before others) ≡ 0) where
    -- the refusal is that of the table
    then : mesh_refusal j (counts_in before others) ≡ first_of ((10, shared_by_three j.triangles) ∷ [])
    unfolding mesh_refusals
    then = first_past ((10, shared_by_three j.triangles) ∷ []) (refusals j (counts_in before others)) (refusals_numbered j (counts_in before others)) passed

    then_none : shared_by_three j.triangles ≡ false → mesh_refusal j (counts_in before others) ≡ 0
    then_none e = then ∙ first_after _ _ _ _ e first_none

    then_third : shared_by_three j.triangles ≡ true → mesh_refusal j (counts_in before others) ≡ 10
    then_third e = then ∙ first_holds _ _ _ e

    module _ (after : MeshBuffers) (t : Result ℕ Third) (made : MadeTopology j.vertices j.triangles j.flags t before after) where
      same : after ≡ afterwards (refusal_of j (counts_in before others)) before (topology_of j.vertices j.triangles j.flags before)
      same = made.buffers ∙ changes (refusal_of j (counts_in before others)) before (topology_of j.vertices j.triangles j.flags before) passed

      pub answer_edges : (n : ℕ) → t ≡ Ok n → Answered j others (Ok n) before after
      answer_edges n e =
          let k = has_edges j.triangles t made.answer n e in
          record {
            number = sym (then_none k.0);
            edge_count_held = λ z. ap Ok k.1;
            buffers = same;
          }

      pub answer_third : (x : Third) → t ≡ Err x → Answered j others (Err refusal.ThirdFace) before after
      answer_third x e =
          let k = is_third j.triangles t made.answer x e in
          record {
            number = sym (then_third k);
            edge_count_held = λ z. absurd (omega (arith, sym (then_third k) ∙ z));
            buffers = same;
          }

    -- the mesh and its buffers fit
    pub fits : Fits j.vertices j.triangles (length before.vertex_words_held) (length before.edge_words_held) (length before.edge_reals_held) (length before.round) (length before.triangle_words_held) (length before.triangle_reals)
    fits =
        let s : Sound j (counts_in before others) = sound j (counts_in before others) passed in
        fits_from j.vertices j.triangles before others (piece_count j) s.triangles s.whole.few_vertices s.buffers

-- the checks' answer, at the counts of the buffers
pub counted : (j : Job) (b b' : BufferCounts) (k : ℕ) → k ≡ refusal_of j b → b ≡ b' → k ≡ refusal_of j b'
counted j b b' k e q = e ∙ ap (refusal_of j) q

pub passed_of : (j : Job) (b b' : BufferCounts) → 0 ≡ refusal_of j b → b ≡ b' → refusal_of j b' ≡ 0
passed_of j b b' e q = sym (counted j b b' 0 e q)

-- a refusal that `?` hands on
pub handed_on : (j : Job) (others : OtherCounts) (before after : MeshBuffers) (r : Result ℕ Refusal) (e : Refusal) → IsErrAnd r (λ f. f ≡ e) → Answered j others (Err e) before after → Answered j others r before after
handed_on j others before after r e h a = let p = err_from_is_err_and r h in rw (p.1, p.2) a

-- four equal counts make equal counts
pub same_counts : {a a' b b' d d' e e' : ℕ} (o : OtherCounts) → a ≡ a' → b ≡ b' → d ≡ d' → e ≡ e' → ◌≡◌ {A = BufferCounts} (record { vertices = a; edges = b; vertex_faces = d; triangles = e; pieces = o.pieces; windows = o.windows; scratch = o.scratch; other_scratch = o.other_scratch }) (record { vertices = a'; edges = b'; vertex_faces = d'; triangles = e'; pieces = o.pieces; windows = o.windows; scratch = o.scratch; other_scratch = o.other_scratch })
same_counts o p q r s = λ i. record { vertices = p i; edges = q i; vertex_faces = r i; triangles = s i; pieces = o.pieces; windows = o.windows; scratch = o.scratch; other_scratch = o.other_scratch }
