-- A job in parts is the whole job, by the contracts of the exports: turns_compute, for a field; insertion_refused, turns_refused and turns_spent, for the refusals. Assumes nothing.
use Prim.Native.Nat.{ℕ, zero, suc, min, ◌+◌, ◌≤◌, ◌<◌}
use native.Mathlib.Omega.{arith}
use mathlib.Core.Bool.{Bool, true, false}
use mathlib.Core.List.{List}
use mathlib.Core.Path.{◌≡◌, refl, sym, ap, subst, ◌∙◌}
use lib.ListN.{length, length-set, get_or, set}
use lib.Seq.{length-take-le, get_or-set_same, get_or-set_other}
use lib.Ieee.{Float}
use Rattle.layout.specs.Layout.{coordinates_per_vertex, vertices_per_triangle, words_per_piece, reals_per_piece, reals_per_vertex, words_per_edge}
use Rattle.buffers.specs.Lack.{lack_number}
use Rattle.buffers.specs.Slots.{slots_of}
use Rattle.windows.specs.Windows.{capacity_of}
use Rattle.heap.specs.Queue.{queue, slots}
use Rattle.job_checks.specs.Job.{Job, vertex_count, triangle_count, piece_count}
use Rattle.topology.specs.Edges.{edges}
use Rattle.advance_c.specs.of_edge_table.Table.{edge_words}
use Rattle.advance_c.proofs.laws_of_edge_table.Holding.{length_words}
use Rattle.compute.specs.of_mesh.declared.OtherCounts.{OtherCounts}
use Rattle.compute.specs.of_mesh.Topology.{MeshBuffers, mesh_buffers, filled}
use Rattle.compute.specs.of_mesh.Answer.{counts_in, mesh_refusal, Answered}
use Rattle.compute.specs.of_cut_lists.Buffers.{Cuts}
use Rattle.insert_c.specs.of_cut_slots.Slots.{cut_count, cut_to}
use Rattle.insert_c.proofs.laws_of_cut_slots.Parts.{pts_fit}
use Rattle.advance_c.specs.of_trim_split.declared.Counts.{Counts}
use Rattle.advance_c.specs.of_trim.Buffers.{Slices}
use Rattle.compute.specs.of_begin.Begin.{WorkSlices, work_slices}
use Rattle.advance_c.specs.of_insertion.declared.InsertCounts.{InsertCounts}
use Rattle.buffers.specs.declared.Lack.{Lack}
use Rattle.insert_c.specs.of_insert_job.declared.InsertRefusal.{InsertRefusal}
use Rattle.std.specs.declared.result.Result.{Result}
use Rattle.insert_c.specs.of_insert_job.declared.InsertRefusal.TheVariants.{Wedge, NoSlot}
use Rattle.std.specs.declared.result.Result.TheVariants.{Ok, Err}
use Rattle.insert_c.specs.of_insert_job.Field.{entry_slices}
use Rattle.insert_c.specs.of_insert_job.Job.{JobWithin}
use Rattle.insert_c.proofs.laws_of_insert_job.Begun.{checked}
use Rattle.advance_c.specs.of_advance.declared.Advanced.{Advanced}
use Rattle.advance_c.specs.of_advance.Contract.{AdvancesTo}
use Rattle.compute.specs.of_run_steps.declared.FieldWork.{FieldWork}
use Rattle.compute.specs.of_run_steps.declared.FieldWork.TheVariants.{Refused, Done}
use Rattle.compute.specs.of_run_steps.Run as run
use Rattle.compute.specs.of_run_steps.Run.{WorkResult}
use Rattle.compute.specs.of_run_steps.Contract.{none_waits, work_answer, RunsTo}
use Rattle.compute.proofs.laws_of_run_steps.Running.{none_waits_lem, one_waits, lack_above, run_answer, after_done, after_spent}
use Rattle.compute.specs.of_field_work.Contract.{WorksTo}
use Rattle.compute.proofs.laws_of_field_work.Working.{works_to}
use Rattle.advance_c.specs.of_zero_buffers.ZeroIf.{zero_words}
use Rattle.compute.specs.of_finish.Finish.{FinishesTo}
use Rattle.compute.specs.of_finish.Contents.{FieldBuffers}
use Rattle.compute.specs.of_finish.Refused.{FieldLengths}
use Rattle.computed.specs.declared.Computed.TheVariants.{Field}
use Rattle.compute.specs.of_compute_spec.Compute.{other_counts, field_buffers, work_slices_in, compute_by_heap}
use Rattle.compute.proofs.laws_of_compute_spec.Refusals.{compute_refused, built_is}
use Rattle.compute.proofs.laws_of_compute_spec.Contents.{computed}
use Rattle.compute.specs.of_field_model.Queue.{queue_in_order}
use Rattle.compute.specs.of_field_model.Field.{refused}
use Rattle.compute.specs.of_field_model.Lent.{compute_over, ComputesOver, finished_of}
use Rattle.compute.proofs.laws_of_field_model.Lawful.{in_order}
use Rattle.compute.proofs.laws_of_field_model.Whole.{job_same}
use Rattle.compute.specs.of_make_field.Contract.{MakesField}
use Rattle.compute.proofs.laws_of_make_field.Making.{makes_field}
use Rattle.compute.specs.Answers.{edges_answered, told}
use Rattle.compute.proofs.Computing.{computes}
use Rattle.insert_c.specs.Exports.{lent_in, insert_told, InsertedIn}
use Rattle.advance_c.specs.Turns.{finish_fits_in}
use Rattle.turns_laws.specs.InTurns.{Call, AsLong, turns_asked, steps_of_calls, last_counts, last_left, RowsBeside, counts_inserted, InsertCalled, slices_inserted, TurnsCalled, NextTurn, ending_in, Finishing, field_in_turns}
use Rattle.turns_laws.proofs.Then.{advances_within, advances_refused}
use Rattle.turns_laws.proofs.Calling.{calls_advance, calls_stopped, calls_long}

-- ---- what insertion told
module _ (l t : List ℕ) (long : 4 ≤ length l) (e : ℕ) (n : InsertCounts) (is : t ≡ set (set (set (set l 0 e) 1 n.trim.made) 2 n.trim.queued) 3 n.entries) where
  abbrev one : List ℕ
  one = set l 0 e

  abbrev two : List ℕ
  two = set one 1 n.trim.made

  abbrev three : List ℕ
  three = set two 2 n.trim.queued

  edges_inserted : get_or t 0 0 ≡ e
  edges_inserted =
      ap (λ (z : List ℕ). get_or z 0 0) is ∙ get_or-set_other three 3 0 n.entries 0 (omega arith) ∙ get_or-set_other two 2 0 n.trim.queued 0 (omega arith) ∙ get_or-set_other one 1 0 n.trim.made 0 (omega arith)
      ∙ get_or-set_same l 0 e 0 (omega (arith, long))

  made_inserted : get_or t 1 0 ≡ n.trim.made
  made_inserted =
      ap (λ (z : List ℕ). get_or z 1 0) is ∙ get_or-set_other three 3 1 n.entries 0 (omega arith) ∙ get_or-set_other two 2 1 n.trim.queued 0 (omega arith)
      ∙ get_or-set_same one 1 n.trim.made 0 (rw length-set (omega (arith, long)))

  queued_inserted : get_or t 2 0 ≡ n.trim.queued
  queued_inserted = ap (λ (z : List ℕ). get_or z 2 0) is ∙ get_or-set_other three 3 2 n.entries 0 (omega arith) ∙ get_or-set_same two 2 n.trim.queued 0 (rw (length-set, length-set) (omega (arith, long)))

  counts_inserted_lem : counts_inserted t ≡ n.trim
  counts_inserted_lem = λ i. record { made = made_inserted i; queued = queued_inserted i }

length_filled : (v : List Float) (triangles flags : List ℕ) (m : MeshBuffers) → length (filled v triangles flags m).edge_words_held ≡ length m.edge_words_held
unfolding filled edge_words
length_filled v triangles flags m = length_words (length m.edge_words_held) words_per_edge _

-- the work is refused: so is the whole job
refused_over : (r : WorkResult) (k : ℕ) → r ≡ run.refused k → finished_of r ≡ refused k
unfolding finished_of
refused_over r k h = ap finished_of h

module _ (j : Job) (b : FieldBuffers) (rows : RowsBeside b) where
  abbrev cut : Cuts
  cut = cut_to (cut_count b.cuts) b.cuts

  abbrev edge_count : ℕ
  edge_count = length (edges j.triangles)

  -- the slots are counted alike
  counts_are : lent_in (work_slices_in b) ≡ other_counts b
  counts_are = λ i. record {
    vertex_reals = slots_of (length b.vertex) reals_per_vertex;
    pieces = min (slots_of (length b.piece_words) words_per_piece) (slots_of (length b.piece_reals) reals_per_piece);
    windows = capacity_of (length b.words) (length b.reals);
    scratch = sym rows.scratch i;
    other_scratch = sym rows.other_scratch i;
  }

  abbrev refusal : ℕ
  refusal = mesh_refusal j (counts_in b.mesh (lent_in (work_slices_in b)))

  cut_length : length cut.pts ≡ cut_count b.cuts
  cut_length = length-take-le (cut_count b.cuts) b.cuts.pts (pts_fit b.cuts (cut_count b.cuts) refl)

  heaped : (most k : ℕ) → compute_by_heap j b most ≡ run.refused k → compute_over queue_in_order j b most ≡ refused k
  heaped most k h = job_same queue_in_order in_order j b most ∙ refused_over (compute_by_heap j b most) k h

  module _ (m₁ : MeshBuffers) (s₁ : WorkSlices) (told₁ : List ℕ) where
    -- ---- the mesh passed
    module _ (r : ℕ) (I : InsertCalled j b m₁ s₁ told₁ r) (passed : refusal ≡ 0) where
      abbrev built : MeshBuffers
      built = I.answers.built

      abbrev In : InsertedIn j built (work_slices_in b) cut I.lent r m₁ s₁ told₁
      In = I.answers.inserted passed

      answered : Answered j (other_counts b) I.answers.answer b.mesh built
      answered = subst (λ (z : OtherCounts). Answered j z I.answers.answer b.mesh built) counts_are I.answers.mesh

      passed_over : mesh_refusal j (counts_in b.mesh (other_counts b)) ≡ 0
      passed_over = ap (λ (z : OtherCounts). mesh_refusal j (counts_in b.mesh z)) (sym counts_are) ∙ passed

      same_edges : length m₁.edge_words_held ≡ length built.edge_words_held
      same_edges =
          I.long.edges
          ∙ sym (ap (λ (m : MeshBuffers). length m.edge_words_held) (built_is j (other_counts b) I.answers.answer b.mesh built answered passed_over) ∙ length_filled j.vertices j.triangles j.flags b.mesh)

      abbrev Ran : ℕ → Result InsertCounts InsertRefusal → FieldWork → Slices → Type 0
      Ran most i w z =
          RunsTo j.limit (vertex_count j) most j.vertices j.triangles built.vertex_words_held built.round built.edge_reals_held m₁.triangle_words_held built.triangle_reals
          (slices_inserted j b m₁ s₁ told₁) cut i w z

      worked : (most : ℕ) (w : FieldWork) (z : Slices) → Ran most In.answer w z
          → WorksTo j.vertices j.triangles j.kinds j.faces j.coords j.limit built (work_slices_in b) cut most w s₁.piece_words s₁.piece_reals z (entry_slices m₁ s₁)
      worked most w z R =
          works_to j.vertices j.triangles j.kinds j.faces j.coords j.limit built (work_slices_in b) cut most (slices_inserted j b m₁ s₁ told₁) (entry_slices m₁ s₁) cut
          same_edges I.long.words I.long.reals refl s₁.piece_words s₁.piece_reals In.answer w z In.inserts R

      -- a refusal of the work is the job's
      work_refused : (most k : ℕ) (z : Slices) → Ran most In.answer (Refused k) z → compute_over queue_in_order j b most ≡ refused k
      work_refused most k z R =
          heaped most k
          (computed j b I.answers.answer built answered passed_over most (run.refused k)
          ((worked most (Refused k) z R).works j.flags (other_counts b) I.answers.answer b.mesh answered passed_over (omega arith)))

      -- ---- insertion was refused
      stopped_by : (most : ℕ) (i : Result InsertCounts InsertRefusal) → In.answer ≡ i → (r, told₁) ≡ insert_told edge_count i I.lent → 0 < r → compute_over queue_in_order j b most ≡ refused r
      unfolding insert_told
      stopped_by most (Err Wedge) is e some =
          let number : r ≡ 11 = ap (λ (p : ℕ × List ℕ). p.0) e in
          work_refused most r (slices_inserted j b m₁ s₁ told₁) (subst (λ (i : Result InsertCounts InsertRefusal). Ran most i (Refused r) (slices_inserted j b m₁ s₁ told₁)) (sym is) (record { bounded = omega (arith, number); runs = ap Refused number }))
      stopped_by most (Err (NoSlot lack)) is e some =
          let number : r ≡ lack_number lack = ap (λ (p : ℕ × List ℕ). p.0) e in
          work_refused most r (slices_inserted j b m₁ s₁ told₁)
          (subst (λ (i : Result InsertCounts InsertRefusal). Ran most i (Refused r) (slices_inserted j b m₁ s₁ told₁)) (sym is) (record { bounded = subst (λ (z : ℕ). 9 < z) (sym number) (lack_above lack); runs = ap Refused number }))
      stopped_by most (Ok n) is e some = let number : r ≡ 0 = ap (λ (p : ℕ × List ℕ). p.0) e in absurd (omega (arith, number, some))

    -- refused by r, whatever the budget is
    pub insertion_refused : (r : ℕ) → 0 < r → InsertCalled j b m₁ s₁ told₁ r → (most : ℕ) → compute_over queue_in_order j b most ≡ refused r
    insertion_refused r some I most = go refusal refl where
      go : (k : ℕ) → refusal ≡ k → compute_over queue_in_order j b most ≡ refused r
      go zero h = stopped_by r I h most (In r I h).answer refl (In r I h).tells some
      go (suc k) h =
          let here : mesh_refusal j (counts_in b.mesh (other_counts b)) ≡ suc k = ap (λ (z : OtherCounts). mesh_refusal j (counts_in b.mesh z)) (sym counts_are) ∙ h in
          let is : r ≡ suc k = (I.answers.refused (λ z. let y : suc k ≡ 0 = sym h ∙ z in omega (arith, y))).0 ∙ h in
          heaped most (suc k) (compute_refused j b most k here) ∙ ap refused (sym is)

    -- ---- insertion went
    module _ (I : InsertCalled j b m₁ s₁ told₁ 0) where
      pub passed : refusal ≡ 0
      passed = go refusal refl where
        go : (k : ℕ) → refusal ≡ k → refusal ≡ 0
        go zero h = h
        go (suc k) h = let is : 0 ≡ suc k = (I.answers.refused (λ z. let y : suc k ≡ 0 = sym h ∙ z in omega (arith, y))).0 ∙ h in absurd (omega (arith, is))

      pub record Told : Type 0 where
        pub counts : InsertCounts
        pub is : (In 0 I passed).answer ≡ Ok counts
        pub trim : counts_inserted told₁ ≡ counts.trim
        pub edge_count_held : get_or told₁ 0 0 ≡ edge_count

      told_of : (i : Result InsertCounts InsertRefusal) → (In 0 I passed).answer ≡ i → (0, told₁) ≡ insert_told edge_count i I.lent → Told
      unfolding insert_told
      told_of (Err Wedge) is e = let z : ◌≡◌ {A = ℕ} 0 11 = ap (λ (p : ℕ × List ℕ). p.0) e in absurd (omega (arith, z))
      told_of (Err (NoSlot lack)) is e = let z : 0 ≡ lack_number lack = ap (λ (p : ℕ × List ℕ). p.0) e in absurd (omega (arith, z, lack_above lack))
      told_of (Ok n) is e =
          let l : told₁ ≡ set (set (set (set I.lent 0 edge_count) 1 n.trim.made) 2 n.trim.queued) 3 n.entries = ap (λ (p : ℕ × List ℕ). p.1) e in
          record { counts = n; is = is; trim = counts_inserted_lem I.lent told₁ I.four edge_count n l; edge_count_held = edges_inserted I.lent told₁ I.four edge_count n l }

      abbrev T : Told
      T = told_of (In 0 I passed).answer refl (In 0 I passed).tells

      abbrev at_first : Slices
      at_first = slices_inserted j b m₁ s₁ told₁

      -- the slots for windows suffice
      fits : (counts_inserted told₁).made ≤ capacity_of (length at_first.words) (length at_first.reals)
      fits =
          subst (λ (c : Counts). c.made ≤ capacity_of (length at_first.words) (length at_first.reals)) (sym T.trim)
          (subst (λ (z : ℕ). T.counts.trim.made ≤ z) (λ i. capacity_of (sym I.long.words i) (sym I.long.reals i))
          (subst (JobWithin (capacity_of (length b.words) (length b.reals))) T.is (In 0 I passed).inserts.bounded))

      abbrev Advanced₁ : ℕ → Result Advanced Lack → Slices → Type 0
      Advanced₁ most a z =
          AdvancesTo j.limit (vertex_count j) most j.vertices j.triangles m₁.vertex_words_held m₁.round m₁.edge_reals_held m₁.triangle_words_held m₁.triangle_reals (counts_inserted told₁) at_first cut a z

      abbrev AdvancedIn : MeshBuffers → Counts → ℕ → Result Advanced Lack → Slices → Type 0
      AdvancedIn m counts most a z =
          AdvancesTo j.limit (vertex_count j) most j.vertices j.triangles m.vertex_words_held m.round m.edge_reals_held m.triangle_words_held m.triangle_reals counts at_first cut a z

      -- the main loop, from the turns
      ran : (most : ℕ) (a : Result Advanced Lack) (z : Slices) (w : FieldWork) → w ≡ work_answer z.keys z.events T.counts.entries a → Advanced₁ most a z → Ran 0 I passed most (In 0 I passed).answer w z
      ran most a z w is A =
          let m = built 0 I passed in
          subst (λ (i : Result InsertCounts InsertRefusal). Ran 0 I passed most i w z) (sym T.is)
          (run_answer j.limit (vertex_count j) most j.vertices j.triangles m.vertex_words_held m.round m.edge_reals_held m₁.triangle_words_held m.triangle_reals at_first cut T.counts a z w is
          (subst (λ (x : MeshBuffers). AdvancedIn x T.counts.trim most a z) (In 0 I passed).kept (subst (λ (c : Counts). AdvancedIn m₁ c most a z) T.trim A)))

      module _ (ks : List Call) (C : TurnsCalled j b m₁ s₁ told₁ ks) where
        abbrev z : Slices
        z = last_left at_first ks

        abbrev counts : Counts
        counts = last_counts (counts_inserted told₁) ks

        abbrev turned : Advanced
        turned = record { counts = counts; steps = steps_of_calls ks }

        all_turns : Advanced₁ (turns_asked ks) (Ok turned) z
        all_turns =
            calls_advance j.limit (vertex_count j) j.vertices j.triangles m₁.vertex_words_held m₁.round m₁.edge_reals_held m₁.triangle_words_held m₁.triangle_reals (cut_count b.cuts) cut cut_length
            (counts_inserted told₁) at_first ks fits C

        -- ---- a call is refused: so is the job, within every budget of at least the turns that they asked for
        pub turns_refused : (k : Call) (r : ℕ) → 0 < r → (r ≡ 20 → ⊥) → NextTurn j b m₁ s₁ told₁ ks k r → (more : ℕ) → compute_over queue_in_order j b ((turns_asked ks + k.most) + more) ≡ refused r
        turns_refused k r some other D more =
            let stop = calls_stopped j.limit (vertex_count j) j.vertices j.triangles m₁.vertex_words_held m₁.round m₁.edge_reals_held m₁.triangle_words_held m₁.triangle_reals (cut_count b.cuts) cut cut_length
            (counts_inserted told₁) at_first ks k r fits C some other D in
            work_refused 0 I passed ((turns_asked ks + k.most) + more) r k.left
            (ran ((turns_asked ks + k.most) + more) (Err stop.lack) k.left (Refused r) (ap Refused stop.number)
            (advances_refused j.limit (vertex_count j) j.vertices j.triangles m₁.vertex_words_held m₁.round m₁.edge_reals_held m₁.triangle_words_held m₁.triangle_reals
            (turns_asked ks + k.most) more (counts_inserted told₁) at_first cut stop.lack k.left stop.advances))

        -- ---- the budget is spent, and an event waits
        pub turns_spent : 0 < counts.queued → counts.queued ≤ slots (queue z.keys z.events) → compute_over queue_in_order j b (turns_asked ks) ≡ refused 15
        turns_spent some few =
            let waits : none_waits z.keys z.events counts.queued ≡ false = sym (one_waits (queue z.keys z.events) counts.queued some few) in
            work_refused 0 I passed (turns_asked ks) 15 z
            (ran (turns_asked ks) (Ok turned) z (Refused 15) (after_spent z.keys z.events T.counts.entries (Ok turned) turned refl waits) all_turns)

        -- ---- no event waits, and the field is finished
        module _ (z' : Slices) (c' : Cuts) (E : Finishing j b m₁ s₁ told₁ ks z' c') (idle : counts.queued ≡ 0) where
          none : none_waits z.keys z.events counts.queued ≡ true
          none = sym (none_waits_lem (queue z.keys z.events) counts.queued idle)

          finished : FinishesTo (get_or told₁ 0 0) counts.made m₁.edge_reals_held z E.cuts z' c'
          finished = go (finish_fits_in (get_or told₁ 0 0) counts.made z) refl where
            go : (t : Bool) → finish_fits_in (get_or told₁ 0 0) counts.made z ≡ t → FinishesTo (get_or told₁ 0 0) counts.made m₁.edge_reals_held z E.cuts z' c'
            go true h = (E.answers.finished h).1
            go false h = let is : ◌≡◌ {A = ℕ} 0 20 = (E.answers.unfit h).0 in absurd (omega (arith, is))

          abbrev long : AsLong at_first z
          long =
              calls_long j.limit (vertex_count j) j.vertices j.triangles m₁.vertex_words_held m₁.round m₁.edge_reals_held m₁.triangle_words_held m₁.triangle_reals (cut_count b.cuts) cut cut_length
              (counts_inserted told₁) at_first ks C

          abbrev done : FieldWork
          done = Done (record { trim = counts; entries = T.counts.entries }) (steps_of_calls ks)

          -- as many turns as there were steps, or more
          enough : (more : ℕ) → Advanced₁ (steps_of_calls ks + more) (Ok turned) z
          enough more =
              advances_within j.limit (vertex_count j) j.vertices j.triangles m₁.vertex_words_held m₁.round m₁.edge_reals_held m₁.triangle_words_held m₁.triangle_reals
              (turns_asked ks) more (counts_inserted told₁) counts (steps_of_calls ks) at_first z cut none all_turns

          abbrev m : MeshBuffers
          m = built 0 I passed

          -- insertion leaves what it does not write of the mesh as it was built
          same_mesh : (scratch other : List ℕ) → ending_in j b m₁ s₁ told₁ z' c' scratch other
              ≡ field_buffers (mesh_buffers m.vertex_words_held z'.edges m.edge_reals_held m.round m₁.triangle_words_held m.triangle_reals)
              (work_slices s₁.piece_words s₁.piece_reals z'.vertex z'.words z'.reals z'.keys z'.events s₁.entries) c' scratch other
          same_mesh scratch other = λ i.
              let x = (In 0 I passed).kept i in
              field_buffers (mesh_buffers x.vertex_words_held z'.edges x.edge_reals_held x.round m₁.triangle_words_held x.triangle_reals)
              (work_slices s₁.piece_words s₁.piece_reals z'.vertex z'.words z'.reals z'.keys z'.events s₁.entries) c' scratch other

          made : (more : ℕ) → MakesField 0 edge_count j.vertices j.triangles j.kinds j.faces j.coords j.limit m (work_slices_in b) b.cuts (steps_of_calls ks + more) done
              (mesh_buffers m.vertex_words_held z'.edges m.edge_reals_held m.round m₁.triangle_words_held m.triangle_reals)
              (work_slices s₁.piece_words s₁.piece_reals z'.vertex z'.words z'.reals z'.keys z'.events s₁.entries) c'
          made more =
              makes_field edge_count j.vertices j.triangles j.kinds j.faces j.coords j.limit m (work_slices_in b) b.cuts (steps_of_calls ks + more) 0 (omega arith) (cut_count b.cuts) refl done
              s₁.piece_words s₁.piece_reals z (entry_slices m₁ s₁) E.cuts z' c'
              (worked 0 I passed (steps_of_calls ks + more) done z
              (ran (steps_of_calls ks + more) (Ok turned) z done (after_done z.keys z.events T.counts.entries (Ok turned) turned refl none) (enough more)))
              (record {
                words = long.words ∙ I.long.words;
                reals = long.reals ∙ I.long.reals;
                keys = long.keys ∙ I.long.keys;
                events = long.events ∙ I.long.events;
                pts = E.pts;
                out = E.out;
                keep = E.keep;
                next = E.next;
                entry_words_held = I.entries;
              })
              (long.edges ∙ same_edges 0 I passed)
              (subst (λ (x : MeshBuffers). FinishesTo edge_count counts.made x.edge_reals_held z E.cuts z' c') (In 0 I passed).kept
              (subst (λ (n : ℕ). FinishesTo n counts.made m₁.edge_reals_held z E.cuts z' c') T.edge_count_held finished))

          counted : field_in_turns j b m₁ s₁ told₁ ks ≡ told (length j.vertices) (length j.triangles) (length j.kinds) edge_count done
          counted =
              let sound = checked j (other_counts b) I.answers.answer b.mesh m (answered 0 I passed) (passed_over 0 I passed) in
              let nv : vertex_count j ≡ slots_of (length j.vertices) coordinates_per_vertex = omega (arith, sound.whole.few_vertices) in
              let nt : triangle_count j ≡ slots_of (length j.triangles) vertices_per_triangle = omega (arith, sound.whole.few_triangles) in
              let np : piece_count j ≡ slots_of (length j.kinds) 1 = omega (arith, sound.whole.few_pieces) in
              λ i. Field (record { vertices = nv i; triangles = nt i; pieces = np i; edges = T.edge_count_held i; windows = counts.made; steps = steps_of_calls ks })

          -- with any budget that the steps are within: the same answer, and every slice holds the same
          pub turns_compute : (more : ℕ) → ComputesOver queue_in_order j b (steps_of_calls ks + more) (field_in_turns j b m₁ s₁ told₁ ks) (ending_in j b m₁ s₁ told₁ z' c' (zero_words b.scratch) (zero_words b.other_scratch))
          turns_compute more =
              computes j.vertices j.triangles j.flags j.kinds j.faces j.coords j.limit b (steps_of_calls ks + more) (lent_in (work_slices_in b)) counts_are I.answers.answer m I.answers.mesh 0 edge_count
              (sym (I.answers.mesh.number ∙ passed)) (sym (ap edges_answered (I.answers.mesh.edge_count_held passed))) done
              (mesh_buffers m.vertex_words_held z'.edges m.edge_reals_held m.round m₁.triangle_words_held m.triangle_reals)
              (work_slices s₁.piece_words s₁.piece_reals z'.vertex z'.words z'.reals z'.keys z'.events s₁.entries) c' (made more)
              (subst (FieldLengths b) (same_mesh b.scratch b.other_scratch) E.long)
              (ending_in j b m₁ s₁ told₁ z' c' (zero_words b.scratch) (zero_words b.other_scratch))
              (same_mesh (zero_words b.scratch) (zero_words b.other_scratch))
              (field_in_turns j b m₁ s₁ told₁ ks) counted
