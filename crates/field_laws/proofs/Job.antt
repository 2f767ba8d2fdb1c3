-- A job that comes to a field passed refusals 1 to 10; its state has the laws of the work, and its mesh stands in the buffers. Assumes nothing.
use Rattle.std.specs.Prelude.{Result, Ok}
use Prim.Native.Nat.{ℕ, zero, suc, ◌/◌, ◌≤◌, ◌<◌}
use native.Mathlib.Omega.{arith}
use mathlib.Core.Bool.{true, false}
use mathlib.Core.List.{List, [], ◌∷◌}
use mathlib.Core.Path.{◌≡◌, refl, sym, subst, ◌∙◌}
use lib.ListN.{length, get_or}
use lib.Ieee.{Float}
use Rattle.layout.specs.Layout.{words_per_edge}
use Rattle.buffers.specs.Slots.{slots_of}
use Rattle.work_laws.specs.of_better.Claim.{All}
use Rattle.windows.specs.Windows.{capacity_of}
use Rattle.job_checks.specs.Job.{Job, vertex_count, triangle_count}
use Rattle.job_checks.specs.Refusals.{refusals, refusal_of}
use Rattle.job_checks.specs.Sound.{Sound}
use Rattle.job_checks.proofs.Any.{both_passed, passed_here}
use Rattle.job_checks.proofs.Sound.{refusals_numbered}
use Rattle.topology.specs.Edges.{edges, shared_by_three}
use Rattle.topology.specs.Frames.{len}
use Rattle.work_laws.specs.of_mesh_laws.Bounds.{EdgeLength}
use Rattle.work_laws.proofs.laws_of_mesh_laws.Frames.{len_bounds}
use Rattle.work_laws.specs.of_mesh.declared.Refusal.{Refusal}
use Rattle.work_laws.specs.of_mesh.Topology.{MeshBuffers, filled, topology_of}
use Rattle.work_laws.specs.of_mesh.Answer.{counts_in, mesh_refusals, mesh_refusal, afterwards, Answered}
use Rattle.work_laws.specs.of_mesh.Held.{Held, Fresh}
use Rattle.work_laws.proofs.laws_of_mesh.Fields.{held, fresh}
use Rattle.work_laws.specs.of_trim_model.Model.{Candidate}
use Rattle.work_laws.specs.of_trim_model.Claim.{AdmittedProper}
use Rattle.field_model.specs.of_cut_lists.Buffers.{Cuts}
use Rattle.field_model.specs.of_face_entries.Buffers.{entry_capacity}
use Rattle.work_laws.specs.of_source_inserts.Inserts.{candidates_in}
use Rattle.work_laws.specs.of_insertion.Insertion.{Inserted, entries_in}
use Rattle.work_laws.specs.of_inside_edges.Inside.{AdmittedInside}
use Rattle.work_laws.proofs.laws_of_inside_edges.Sources.{job_inside}
use Rattle.work_laws.specs.of_windows_there.There.{GoesInto, CandidateThere}
use Rattle.work_laws.proofs.laws_of_windows_there.Inserted.{job_into}
use Rattle.work_laws.specs.of_field_step.Step.{idle_of}
use Rattle.work_laws.specs.of_insert_job.Field.{begun_job, inserts_of}
use Rattle.work_laws.proofs.laws_of_insert_job.Begun.{checked, begun_proper, begun_job_lem}
use Rattle.field_model.specs.of_cut_slots.Slots.{cut_count, cut_to}
use Rattle.work_laws.specs.of_run_steps.Run.{WorkResult, refused, field}
use Rattle.work_laws.specs.of_field_work.Work.{work_of, work_candidates}
use Rattle.field_model.specs.of_finish.Contents.{FieldBuffers}
use Rattle.field_model.specs.of_compute_spec.Compute.{other_counts, work_slices_in, compute_by_heap}
use Rattle.field_model.proofs.laws_of_compute_spec.Refusals.{compute_refused, compute_worked}
use Rattle.work_laws.specs.Kept.{SoundCandidate}
use Rattle.work_laws.specs.Laws.{StateLaws}
use Rattle.work_laws.proofs.Laws.{state_laws}
use Rattle.field_model.specs.Job.{Finished}

-- its candidates, by the definition over the heap's buffers
abbrev pub job_candidates : Job → FieldBuffers → ℕ → List Candidate
job_candidates j b most = work_candidates j (filled j.vertices j.triangles j.flags b.mesh).vertex_words_held (work_slices_in b) (cut_to (cut_count b.cuts) b.cuts) most

-- its field without the queue, after so many steps
abbrev pub finished_as : Inserted → ℕ → Finished
finished_as x n = record { wins = x.state.wins; live = x.state.live; vertex = x.state.stock.vertex; entries = x.entries; steps = n }

filled_as : (v : List Float) (triangles flags : List ℕ) (m : MeshBuffers) (k : ℕ) → k ≡ 0 → shared_by_three triangles ≡ false → filled v triangles flags m ≡ afterwards k m (topology_of v triangles flags m)
unfolding afterwards topology_of
filled_as v triangles flags m k z s = rw (z, s) refl

both_all : {A : Type 0} (P Q : A → Type 0) (l : List A) → All P l → All Q l → All (λ (x : A). P x × Q x) l
both_all P Q [] p q = tt
both_all P Q (x ∷ l) p q = ((p.0, q.0), both_all P Q l p.1 q.1)

IsField : WorkResult → Type 0
IsField (refused k) = ⊥
IsField (field x n) = Unit {0}

no_field : (k : ℕ) (x : Inserted) (n : ℕ) → refused k ≡ field x n → ⊥
unfolding IsField
no_field k x n h = subst IsField (sym h) tt

module _ (j : Job) (b : FieldBuffers) (most : ℕ) (x : Inserted) (n : ℕ) (is : compute_by_heap j b most ≡ field x n) where
  pub passed : mesh_refusal j (counts_in b.mesh (other_counts b)) ≡ 0
  passed = go (mesh_refusal j (counts_in b.mesh (other_counts b))) refl where
    go : (k : ℕ) → mesh_refusal j (counts_in b.mesh (other_counts b)) ≡ k → k ≡ 0
    go zero h = refl
    go (suc k) h = absurd (no_field (suc k) x n (sym (compute_refused j b most k h) ∙ is))

  abbrev pub built : MeshBuffers
  built = filled j.vertices j.triangles j.flags b.mesh

  abbrev lent_cuts : Cuts
  lent_cuts = cut_to (cut_count b.cuts) b.cuts

  worked : work_of j built.vertex_words_held (work_slices_in b) lent_cuts most ≡ field x n
  worked = sym (compute_worked j b most passed) ∙ is

  abbrev told : Result ℕ Refusal
  told = Ok (length (edges j.triangles))

  answered : Answered j (other_counts b) told b.mesh built
  unfolding mesh_refusals
  answered =
      let p = both_passed ((10, shared_by_three j.triangles) ∷ []) (refusals j (counts_in b.mesh (other_counts b))) (refusals_numbered j (counts_in b.mesh (other_counts b))) passed in
      record {
        number = sym passed;
        edge_count_held = λ h. refl;
        buffers = filled_as j.vertices j.triangles j.flags b.mesh (refusal_of j (counts_in b.mesh (other_counts b))) p.0 (passed_here 10 (shared_by_three j.triangles) [] (omega arith) p.1);
      }

  pub sound_job : Sound j (counts_in b.mesh (other_counts b))
  sound_job = checked j (other_counts b) told b.mesh built answered passed

  pub mesh_held : Held j.vertices j.triangles j.flags built
  mesh_held = held j (other_counts b) told b.mesh built answered (length (edges j.triangles)) refl

  pub mesh_fresh : Fresh built
  mesh_fresh = fresh j (other_counts b) told b.mesh built answered (length (edges j.triangles)) refl

  -- its edges and triangles have slots
  pub edge_slots : length (edges j.triangles) ≤ slots_of (length built.edge_words_held) words_per_edge
  edge_slots = (begun_job_lem j (other_counts b) told b.mesh built answered passed (work_slices_in b) (omega arith)).edge_slots

  pub triangle_slots_held : triangle_count j ≤ slots_of (length built.triangle_words_held) 6
  triangle_slots_held = (begun_job_lem j (other_counts b) told b.mesh built answered passed (work_slices_in b) (omega arith)).triangle_slots_held

  pub long : (e : ℕ) → e < length (edges j.triangles) → EdgeLength (len j.vertices j.triangles e)
  long = len_bounds j.vertices j.triangles sound_job.triangles sound_job.vertices sound_job.regular

  pub face_there : (i : ℕ) → i < length j.kinds → get_or j.faces i 0 < length j.triangles / 3
  face_there i l = sound_job.pieces.face_there i (omega (arith, l, sound_job.whole.face_each))

  sound_candidates : All (SoundCandidate j.limit j.vertices j.triangles) (candidates_in (inserts_of j))
  sound_candidates =
      let cs = candidates_in (inserts_of j) in
      let lens = len j.vertices j.triangles in
      both_all (AdmittedProper j.limit lens) (λ (c : Candidate). AdmittedInside j.limit lens c × CandidateThere (GoesInto j.triangles) c) cs
      (begun_proper j (other_counts b) told b.mesh built answered passed)
      (both_all (AdmittedInside j.limit lens) (CandidateThere (GoesInto j.triangles)) cs
      (job_inside j.limit j.vertices j.triangles (vertex_count j) sound_job.triangles j.kinds j.faces j.coords face_there long)
      (job_into j.vertices j.triangles (vertex_count j) sound_job.triangles j.kinds j.faces j.coords face_there))

  whole_laws : StateLaws j.limit j.vertices j.triangles (vertex_count j) (capacity_of (length b.words) (length b.reals)) (length (begun_job j (work_slices_in b)).vertex) (job_candidates j b most) x.state
      × ((idle_of x.state ≡ true) × ((x.entries ≡ entries_in (inserts_of j)) × (length x.entries ≤ entry_capacity (length b.entry_words_held))))
  whole_laws = state_laws j sound_job.triangles long built.vertex_words_held (work_slices_in b) lent_cuts most sound_candidates x n worked

  pub laws : StateLaws j.limit j.vertices j.triangles (vertex_count j) (capacity_of (length b.words) (length b.reals)) (length (begun_job j (work_slices_in b)).vertex) (job_candidates j b most) x.state
  laws = whole_laws.0

  pub no_event : idle_of x.state ≡ true
  no_event = whole_laws.1.0

  pub entries_are : x.entries ≡ entries_in (inserts_of j)
  entries_are = whole_laws.1.1.0

  pub entries_fit : length x.entries ≤ entry_capacity (length b.entry_words_held)
  entries_fit = whole_laws.1.1.1
