-- Where the work on a job ends in a field, `finish` leaves every buffer as the definition has it. Assumes nothing.
use Rattle.std.specs.Prelude.{Result}
use Prim.Native.Nat.{ℕ, ◌≤◌}
use mathlib.Core.List.{List}
use mathlib.Core.Path.{◌≡◌, refl, sym, ap, subst, ◌∙◌}
use lib.ListN.{length}
use lib.Ieee.{Float}
use Rattle.windows.specs.Windows.{capacity_of}
use Rattle.job_checks.specs.Job.{Job}
use Rattle.topology.specs.Edges.{edges}
use Rattle.field_work.specs.of_mesh.declared.Refusal.{Refusal}
use Rattle.field_work.specs.of_mesh.Topology.{MeshBuffers}
use Rattle.field_work.specs.of_mesh.Answer.{counts_in, mesh_refusal, Answered}
use Rattle.finish.proofs.laws_of_mesh.Fields.{held, fresh}
use Rattle.cut_slots.specs.of_cut_lists.Buffers.{Cuts}
use Rattle.finish.specs.of_trim.Buffers.{Slices}
use Rattle.finish.specs.of_offers.Walks.{edge_data}
use Rattle.finish.specs.of_face_entries.Buffers.{EntryBuffers}
use Rattle.finish.specs.of_piece_ends.Table.{piece_words_of}
use Rattle.finish.specs.of_piece_ends.Directions.{piece_reals_of}
use Rattle.field_work.specs.of_insertion.declared.InsertCounts.{InsertCounts}
use Rattle.field_work.specs.of_insert_job.Field.{trim_slices, begun_job}
use Rattle.field_work.specs.Contract.{FieldDone}
use Rattle.finish.specs.Finish.{FinishesTo}
use Rattle.finish.specs.Contents.{FieldBuffers, FieldContents, WorkLengths, BuffersKept, after_finish}
use Rattle.finish.proofs.Contents.{work_in, contents_are}
use Rattle.finish.specs.of_zero_buffers.ZeroIf.{zero_words}
use Rattle.field_work.specs.of_insertion.Insertion.{Inserted}
use Rattle.field_work.specs.of_run_steps.Run.{WorkResult, field}
use Rattle.field_work.specs.Work.{work_of, work_candidates}
use Rattle.cut_slots.specs.Slots.{cut_count, cut_to}
use Rattle.compute_spec.specs.Compute.{other_counts, work_slices_in, compute_by_heap, LeavesByHeap}
use Rattle.compute_spec.proofs.Refusals.{compute_worked, built_is}

-- the buffers after the work, which wrote to the slices of trimming, to the entries and to the pieces; c are the cut lists
abbrev pub after_work : FieldBuffers → MeshBuffers → List ℕ → List Float → Slices → EntryBuffers → Cuts → FieldBuffers
after_work b built pw pr z t c = record {
  mesh = record {
    vertex_words_held = built.vertex_words_held;
    edge_words_held = z.edges;
    edge_reals_held = built.edge_reals_held;
    round = built.round;
    triangle_words_held = t.triangles;
    triangle_reals = built.triangle_reals;
  };
  vertex = z.vertex;
  piece_words = pw;
  piece_reals = pr;
  words = z.words;
  reals = z.reals;
  keys = z.keys;
  events = z.events;
  cuts = c;
  entry_words_held = t.words;
  scratch = zero_words b.scratch;
  other_scratch = zero_words b.other_scratch;
}

module _ (j : Job) (b : FieldBuffers) (meshed : Result ℕ Refusal) (built : MeshBuffers) (answered : Answered j (other_counts b) meshed b.mesh built)
    (passed : mesh_refusal j (counts_in b.mesh (other_counts b)) ≡ 0) (c₀ : Cuts) (most : ℕ)
    (pw : List ℕ) (pr : List Float) (z : Slices) (t : EntryBuffers) (c : Cuts)
    (pieces : pw ≡ piece_words_of j.kinds j.coords (length b.piece_words)) (directions : pr ≡ piece_reals_of j.kinds j.coords (length b.piece_reals))
    (same : WorkLengths b (after_work b built pw pr z t c)) (same_edges : length z.edges ≡ length built.edge_words_held)
    (n : InsertCounts) (steps : ℕ) (fits : n.trim.made ≤ capacity_of (length b.words) (length b.reals))
    (done : FieldDone j built (work_slices_in b) c₀ most n steps z t) where
  buffers_kept : BuffersKept built j.kinds j.coords b (after_work b built pw pr z t c)
  buffers_kept = record {
    same = same;
    edge_length = same_edges;
    vertex_words_held = refl;
    edge_reals_held = refl;
    round = refl;
    triangle_reals = refl;
    piece_words = pieces;
    piece_reals = directions;
    scratch = refl;
    other_scratch = refl;
  }

  -- `finish` of so many edges
  pub field_left : (z' : Slices) (c' : Cuts) → FinishesTo (length (edges j.triangles)) n.trim.made built.edge_reals_held z c z' c'
      → FieldContents built (edge_data j.vertices j.triangles) (length (edges j.triangles)) done.inserted.state done.inserted.entries j.kinds j.coords b
      (after_finish (after_work b built pw pr z t c) z' c')
  field_left z' c' ends =
      let edge_count_held = length (edges j.triangles) in
      let told = answered.edge_count_held passed in
      contents_are built (edge_data j.vertices j.triangles) edge_count_held n.trim n.entries done.inserted.state done.inserted.entries j.kinds j.coords b (after_work b built pw pr z t c)
      (work_in j.vertices j.triangles j.flags built
      (fresh j (other_counts b) meshed b.mesh built answered edge_count_held told) (held j (other_counts b) meshed b.mesh built answered edge_count_held told)
      j.limit (work_candidates j built.vertex_words_held (work_slices_in b) c₀ most) n.trim n.entries done.inserted.state done.inserted.entries j.kinds j.coords b (after_work b built pw pr z t c)
      (trim_slices built (begun_job j (work_slices_in b))) buffers_kept
      (subst (λ (x : ℕ). n.trim.made ≤ x) (λ i. capacity_of (sym same.words i) (sym same.reals i)) fits)
      done.stands.trim done.untouched done.stands.entries)
      z' c' ends

-- the whole job's answer and what it leaves, where the cut lists were cut to what all four have slots for
module _ (j : Job) (b : FieldBuffers) (meshed : Result ℕ Refusal) (built : MeshBuffers) (answered : Answered j (other_counts b) meshed b.mesh built)
    (passed : mesh_refusal j (counts_in b.mesh (other_counts b)) ≡ 0) (most : ℕ) where
  abbrev cuts_lent : Cuts
  cuts_lent = cut_to (cut_count b.cuts) b.cuts

  -- the work is the definition's
  pub computed : (r : WorkResult) → work_of j built.vertex_words_held (work_slices_in b) cuts_lent most ≡ r → compute_by_heap j b most ≡ r
  computed r h =
      compute_worked j b most passed
      ∙ ap (λ (m : MeshBuffers). work_of j m.vertex_words_held (work_slices_in b) cuts_lent most) (sym (built_is j (other_counts b) meshed b.mesh built answered passed))
      ∙ h

  pub leaves_field : (x : Inserted) (steps : ℕ) (b' : FieldBuffers) → work_of j built.vertex_words_held (work_slices_in b) cuts_lent most ≡ field x steps
      → FieldContents built (edge_data j.vertices j.triangles) (length (edges j.triangles)) x.state x.entries j.kinds j.coords b b'
      → LeavesByHeap j b (compute_by_heap j b most) b'
  leaves_field x steps b' h k =
      subst (λ (r : WorkResult). LeavesByHeap j b r b') (sym (computed (field x steps) h))
      (subst (λ (m : MeshBuffers). FieldContents m (edge_data j.vertices j.triangles) (length (edges j.triangles)) x.state x.entries j.kinds j.coords b b')
      (built_is j (other_counts b) meshed b.mesh built answered passed) k)
