-- The answers of `sirmolaat_insert`, from what the functions that it calls answered. Assumes nothing.
use Rattle.std.specs.Prelude.{Result}
use Prim.Native.Nat.{ℕ, ◌*◌, ◌≤◌, ◌<◌}
use mathlib.Core.List.{List}
use mathlib.Core.Path.{◌≡◌, refl, sym, ap, subst, ◌∙◌}
use native.Mathlib.Omega.{arith}
use lib.ListN.{length}
use lib.Ieee.{Float}
use Rattle.layout.specs.Layout.{words_per_piece}
use Rattle.job_checks.specs.Job.{Job, job, vertex_count}
use Rattle.cut_slots.specs.of_cut_lists.Buffers.{Cuts}
use Rattle.cut_slots.specs.Slots.{cut_count, cut_to}
use Rattle.insert_job.specs.of_mesh.declared.OtherCounts.{OtherCounts}
use Rattle.insert_job.specs.of_mesh.declared.Refusal.{Refusal}
use Rattle.insert_job.specs.of_mesh.Topology.{MeshBuffers, mesh_buffers}
use Rattle.insert_job.specs.of_mesh.Answer.{meshed_number, counts_in, mesh_refusal, Answered}
use Rattle.insert_job.specs.of_begin.Begin.{WorkSlices}
use Rattle.insert_job.specs.of_insertion.declared.InsertCounts.{InsertCounts}
use Rattle.insert_job.specs.declared.InsertRefusal.{InsertRefusal}
use Rattle.std.specs.declared.result.Result.{Result}
use Rattle.insert_job.specs.Field.{trim_slices, entry_slices}
use Rattle.insert_job.specs.Job.{InsertsJob}
use Rattle.insert_job.proofs.Begun.{begun_fits}
use Rattle.insert_c.specs.Exports.{lent_in, edges_told, insert_told, InsertedIn, InsertAnswers}

-- a mesh that was answered with a number, over slices whose slots were counted
module _ (v : List Float) (triangles flags kinds faces : List ℕ) (coords : List Float) (limit : Float) (m : MeshBuffers) (s : WorkSlices) (o : OtherCounts) (a : Result ℕ Refusal) (built : MeshBuffers)
    (counts : o ≡ lent_in s) (built_is : Answered (job v triangles flags kinds faces coords limit) o a m built) (n : ℕ) (number : n ≡ meshed_number a) where
  abbrev j : Job
  j = job v triangles flags kinds faces coords limit

  answered : Answered j (lent_in s) a m built
  answered = subst (λ (z : OtherCounts). Answered j z a m built) counts built_is

  refusal : n ≡ mesh_refusal j (counts_in m (lent_in s))
  refusal = number ∙ answered.number

  module _ (none : n ≤ 0) where
    passed : mesh_refusal j (counts_in m (lent_in s)) ≡ 0
    passed = let z : n ≡ 0 = omega (arith, none) in sym refusal ∙ z

    -- what `insert_parts` asks
    pub parts_fit : (vertex_count j ≤ 65535) × ((length kinds ≤ 65535) × (words_per_piece * length kinds ≤ length s.piece_words))
    parts_fit = begun_fits j (lent_in s) a m built answered passed s (omega arith)

    module _ (c : Cuts) (x : ℕ) (cut : x ≡ cut_count c) (told : List ℕ) (r : Result InsertCounts InsertRefusal) (m' : MeshBuffers) (s' : WorkSlices) where
      abbrev Inserted : ℕ → Type 0
      Inserted z = InsertsJob v triangles kinds faces coords limit built s (cut_to z c) r s'.piece_words s'.piece_reals (trim_slices m' s') (entry_slices m' s')

      abbrev Kept : Type 0
      Kept = m' ≡ mesh_buffers built.vertex_words_held m'.edge_words_held built.edge_reals_held built.round m'.triangle_words_held built.triangle_reals

      says_in : Inserted (cut_count c) → Kept → (e k : ℕ) (told' : List ℕ) → e ≡ edges_told a → (k, told') ≡ insert_told e r told → InsertedIn j built s (cut_to (cut_count c) c) told k m' s' told'
      says_in i kept e k told' is tells = record {
        answer = r;
        inserts = i;
        kept = kept;
        tells = tells ∙ ap (λ (z : ℕ). insert_told z r told) (is ∙ ap edges_told (answered.edge_count_held passed));
      }

      pub says_inserted : {c' : Cuts} → Inserted x → Kept → (e k : ℕ) (told' : List ℕ) → e ≡ edges_told a → (k, told') ≡ insert_told e r told → InsertAnswers j m s c told k m' s' c' told'
      says_inserted i kept e k told' is tells = record {
        answer = a;
        built = built;
        mesh = answered;
        refused = λ h. absurd (h passed);
        inserted = λ h. says_in (subst Inserted cut i) kept e k told' is tells;
      }

  pub says_refused : 0 < n → (c : Cuts) (told : List ℕ) → InsertAnswers j m s c told n built s c told
  says_refused some c told = record {
    answer = a;
    built = built;
    mesh = answered;
    refused = λ h. (refusal, (refl, (refl, (refl, refl))));
    inserted = λ h. let z : n ≡ 0 = refusal ∙ h in absurd (omega (arith, some, z));
  }
