-- The work and its finish, put together: what they leave is the definition's. Assumes nothing.
use Rattle.std.specs.Prelude.{Result}
use Prim.Native.Nat.{ℕ, ◌≤◌, ◌<◌}
use native.Mathlib.Omega.{arith}
use mathlib.Core.List.{List, []}
use mathlib.Core.Path.{◌≡◌, refl, sym, ap, subst, ◌∙◌}
use lib.ListN.{length}
use lib.Ieee.{Float}
use Rattle.layout.specs.Layout.{words_per_edge}
use Rattle.buffers.specs.Slots.{slots_of}
use Rattle.windows.specs.Windows.{capacity_of}
use Rattle.job_checks.specs.Job.{Job, job}
use Rattle.topology.specs.Edges.{edges}
use Rattle.compute_spec.specs.of_mesh.declared.Refusal.{Refusal}
use Rattle.compute_spec.specs.of_mesh.Topology.{MeshBuffers, mesh_buffers}
use Rattle.compute_spec.specs.of_mesh.Answer.{counts_in, mesh_refusal, Answered}
use Rattle.compute_spec.specs.of_cut_lists.Buffers.{Cuts}
use Rattle.finish_work.specs.of_trim.Buffers.{Slices}
use Rattle.finish_work.proofs.laws_of_live_windows.Stored.{length_wins}
use Rattle.compute_spec.specs.of_cut_slots.Slots.{cut_count, cut_to}
use Rattle.compute_spec.specs.of_face_entries.Buffers.{EntryBuffers}
use Rattle.compute_spec.specs.of_piece_ends.Table.{piece_words_of}
use Rattle.compute_spec.specs.of_piece_ends.Directions.{piece_reals_of}
use Rattle.compute_spec.specs.of_begin.Begin.{WorkSlices, work_slices}
use Rattle.compute_spec.specs.of_insertion.declared.InsertCounts.{InsertCounts}
use Rattle.compute_spec.specs.of_run_steps.declared.FieldWork.{FieldWork}
use Rattle.compute_spec.specs.of_run_steps.declared.FieldWork.TheVariants.{Refused, Done}
use Rattle.compute_spec.specs.of_run_steps.Run.{refused, field}
use Rattle.compute_spec.specs.of_run_steps.Contract.{WorkWithin}
use Rattle.compute_spec.specs.of_field_work.Contract.{WorksTo, JobWorked, FieldDone}
use Rattle.compute_spec.specs.of_finish.Finish.{FinishesTo}
use Rattle.compute_spec.specs.of_finish.Contents.{FieldBuffers, FieldContents, WorkLengths, after_finish}
use Rattle.finish_work.specs.FinishWork.{FinishesWork}
use Rattle.compute_spec.specs.of_offers.Walks.{edge_data}
use Rattle.compute_spec.specs.Compute.{other_counts, field_buffers, LeavesByHeap}
use Rattle.compute_spec.proofs.Refusals.{built_is}
use Rattle.compute_spec.proofs.Contents.{after_work, field_left, computed}
use Rattle.make_field.specs.Contract.{FieldMade, MadeOrRefused, MakesField}

-- ---- one job, its mesh answered and not refused; b are the buffers as they were lent
module _ (j : Job) (m : MeshBuffers) (s : WorkSlices) (c : Cuts) (most : ℕ) (meshed : Result ℕ Refusal) (before : MeshBuffers) (scratch other : List ℕ) where
  abbrev b : FieldBuffers
  b = field_buffers before s c scratch other

  abbrev cut : Cuts
  cut = cut_to (cut_count c) c

  module _ (answered : Answered j (other_counts b) meshed before m) (passed : mesh_refusal j (counts_in before (other_counts b)) ≡ 0)
      (pw : List ℕ) (pr : List Float) (z : Slices) (t : EntryBuffers) (c₁ : Cuts) (z' : Slices) (c' : Cuts) where
    -- what was lent, after the work and its finish
    abbrev left : FieldBuffers
    left = after_finish (after_work b m pw pr z t c₁) z' c'

    made_refused : (k : ℕ) → JobWorked j m s cut most (Refused k) z t → 9 < k → MadeOrRefused j b most (Refused k) left
    made_refused k is above = (computed j b meshed m answered passed most (refused k) is, above)

    -- the field, of so many edges
    module _ (pieces : pw ≡ piece_words_of j.kinds j.coords (length s.piece_words)) (directions : pr ≡ piece_reals_of j.kinds j.coords (length s.piece_reals))
        (same : WorkLengths b (after_work b m pw pr z t c₁)) (same_edges : length z.edges ≡ length m.edge_words_held)
        (n : InsertCounts) (steps : ℕ) (fits : n.trim.made ≤ capacity_of (length s.words) (length s.reals)) (done : FieldDone j m s cut most n steps z t) where
      made_contents : FinishesTo (length (edges j.triangles)) n.trim.made m.edge_reals_held z c₁ z' c' → LeavesByHeap j b (field done.inserted steps) left
      made_contents ends =
          subst (λ (x : MeshBuffers). FieldContents x (edge_data j.vertices j.triangles) (length (edges j.triangles)) done.inserted.state done.inserted.entries j.kinds j.coords b left)
          (built_is j (other_counts b) meshed before m answered passed)
          (field_left j b meshed m answered passed cut most pw pr z t c₁ pieces directions same same_edges n steps fits done z' c' ends)

      made_done : FinishesTo (length (edges j.triangles)) n.trim.made m.edge_reals_held z c₁ z' c' → FieldMade j b most n steps left
      made_done ends = record {
        inserted = done.inserted;
        is = computed j b meshed m answered passed most (field done.inserted steps) done.is;
        made = sym (length_wins n.trim.made z.words z.reals) ∙ ap length done.stands.trim.holds.all;
        leaves = made_contents ends;
      }

    made_each : (r : FieldWork) → JobWorked j m s cut most r z t → WorkWithin (capacity_of (length s.words) (length s.reals)) r
        → pw ≡ piece_words_of j.kinds j.coords (length s.piece_words) → pr ≡ piece_reals_of j.kinds j.coords (length s.piece_reals)
        → WorkLengths b (after_work b m pw pr z t c₁) → length z.edges ≡ length m.edge_words_held
        → FinishesWork r (length (edges j.triangles)) m.edge_reals_held z c₁ z' c' → MadeOrRefused j b most r left
    made_each (Refused k) w within pieces directions same same_edges ends = made_refused k w within
    made_each (Done n steps) w within pieces directions same same_edges ends = made_done pieces directions same same_edges n steps within w ends

-- ---- the function: x slots of the cut buffers, and what was left of the slices after the work and after its finish
module _ (count : ℕ) (v : List Float) (triangles kinds faces : List ℕ) (coords : List Float) (limit : Float) (m : MeshBuffers) (s : WorkSlices) (c : Cuts) (most : ℕ) where
  pub makes_field : (number : ℕ) → number ≤ 0 → (x : ℕ) → x ≡ cut_count c → (r : FieldWork) (pw : List ℕ) (pr : List Float) (z : Slices) (t : EntryBuffers) (c₁ : Cuts) (z' : Slices) (c' : Cuts)
      → WorksTo v triangles kinds faces coords limit m s (cut_to x c) most r pw pr z t
      → WorkLengths (field_buffers m s c [] []) (after_work (field_buffers m s c [] []) m pw pr z t c₁) → length z.edges ≡ length m.edge_words_held
      → FinishesWork r count m.edge_reals_held z c₁ z' c'
      → MakesField number count v triangles kinds faces coords limit m s c most r
      (mesh_buffers m.vertex_words_held z'.edges m.edge_reals_held m.round t.triangles m.triangle_reals)
      (work_slices pw pr z'.vertex z'.words z'.reals z'.keys z'.events t.words) c'
  makes_field number none x is r pw pr z t c₁ z' c' worked same same_edges ends = record {
    passes_on = λ some. absurd (omega (arith, none, some));
    makes = λ zero flags meshed before scratch other answered passed counted.
        let w = subst (λ (y : ℕ). WorksTo v triangles kinds faces coords limit m s (cut_to y c) most r pw pr z t) is worked in
        let b = field_buffers before s c scratch other in
        let j = job v triangles flags kinds faces coords limit in
        made_each j m s c most meshed before scratch other answered passed pw pr z t c₁ z' c' r
        (w.works flags (other_counts b) meshed before answered passed (omega arith)) w.bounded w.pieces w.directions
        (record { words = same.words; reals = same.reals; keys = same.keys; events = same.events; pts = same.pts; out = same.out; keep = same.keep; next = same.next; entry_words_held = same.entry_words_held })
        same_edges
        (subst (λ (n : ℕ). FinishesWork r n m.edge_reals_held z c₁ z' c') counted ends);
  }

  -- after a refusal of the mesh
  pub passes_field : (number : ℕ) → 0 < number → MakesField number count v triangles kinds faces coords limit m s c most (Refused number) m s c
  passes_field number some = record {
    passes_on = λ h. (refl, (refl, (refl, refl)));
    makes = λ zero. absurd (omega (arith, zero, some));
  }

-- what `finish_work` asks of the slices that the work left
pub within_left : (r : FieldWork) (words : List ℕ) (reals : List Float) (words' : List ℕ) (reals' : List Float) → length words' ≡ length words → length reals' ≡ length reals
    → WorkWithin (capacity_of (length words) (length reals)) r → WorkWithin (capacity_of (length words') (length reals')) r
within_left r words reals words' reals' p q h = subst (λ (n : ℕ). WorkWithin n r) (λ i. capacity_of (sym p i) (sym q i)) h

pub edges_left : (count : ℕ) (edges edges' : List ℕ) → length edges' ≡ length edges → count ≤ slots_of (length edges) words_per_edge → count ≤ slots_of (length edges') words_per_edge
edges_left count edges edges' p h = subst (λ (n : ℕ). count ≤ slots_of n words_per_edge) (sym p) h
