-- A law that additions, pops and marks keep holds of the field that the work on a job comes to: work_kept. Assumes nothing.
use Rattle.std.specs.declared.option.Option.{Option}
use Rattle.std.specs.declared.option.Option.TheVariants.{None, Some}
use Prim.Native.Nat.{ℕ, zero, suc, ◌≤◌, ◌<◌}
use native.Mathlib.Omega.{arith}
use mathlib.Core.Bool.{Bool, true, false, cond}
use mathlib.Core.List.{List, [], ◌∷◌, ◌++◌, append-nil, append_assoc}
use mathlib.Core.Path.{◌≡◌, refl, sym, ap, subst, ◌∙◌}
use borrow.Author.Tests.{ltb-true}
use lib.Dec.{ltb}
use lib.ListN.{length, length-append}
use lib.Ieee.{Float}
use Rattle.buffers.specs.Lack.{lack_number}
use Rattle.buffers.specs.declared.Lack.TheVariants.{Entries}
use Rattle.last_pass.specs.of_better.Claim.{All}
use Rattle.std.specs.Prelude.{None, Some}
use Rattle.heap.specs.Queue.{Queue, popping, Popped}
use Rattle.job_checks.specs.Job.{Job}
use Rattle.job_checks.specs.Sound.{ValidTriangles}
use Rattle.topology.specs.Edges.{edges}
use Rattle.topology.specs.Frames.{len}
use Rattle.inside_edges.specs.of_mesh_laws.Bounds.{EdgeLength}
use Rattle.windows.specs.Windows.{capacity_of}
use Rattle.last_pass.specs.of_trim_model.Model.{Candidate}
use Rattle.last_pass.specs.of_trim_model.Claim.{AdmittedProper}
use Rattle.last_pass.proofs.laws_of_trim_model.Lists.{all_left, all_right}
use Rattle.last_pass.specs.of_trim_state.State as state
use Rattle.last_pass.specs.of_trim_state.State.{State, Result, add_of}
use Rattle.inside_edges.specs.of_cut_lists.Buffers.{Cuts}
use Rattle.last_pass.specs.of_pop.State.{after_pop}
use Rattle.inside_edges.specs.of_offers.Offers.{and_next, add_all, offer_list}
use Rattle.inside_edges.specs.of_offers.Walks.{edge_data}
use Rattle.inside_edges.specs.of_face_entries.Entries.{FaceEntry}
use Rattle.inside_edges.specs.of_face_entries.Buffers.{entry_capacity}
use Rattle.field_work.specs.of_source_inserts.declared.Insert.{Insert}
use Rattle.field_work.specs.of_source_inserts.declared.Insert.TheVariants.{Entry, Offer}
use Rattle.field_work.specs.of_source_inserts.Inserts.{candidates_at, candidates_in}
use Rattle.field_work.specs.of_insertion.Insertion.{Inserted, InsertResult, stopped, went, and_insert, with_entries, entries_in, insert_one, insert_each}
use Rattle.field_work.specs.of_spread_offers.declared.Spread.{Spread}
use Rattle.field_work.specs.of_spread_offers.Spreading.{spread_candidates, SpreadOf}
use Rattle.inside_edges.proofs.laws_of_spread_offers.Proper.{spread_proper}
use Rattle.inside_edges.specs.Inside.{AdmittedInside}
use Rattle.inside_edges.proofs.Spread.{spread_inside}
use Rattle.field_work.specs.of_windows_there.There.{GoesInto, CandidateThere}
use Rattle.field_work.proofs.laws_of_windows_there.Passed.{spread_into}
use Rattle.field_work.proofs.laws_of_windows_there.Events.{popped_there}
use Rattle.field_work.specs.of_field_step.Step.{turn_of, marked, after_turn, step_with, step_of, idle_of, turn_candidates, candidates_with, step_candidates}
use Rattle.field_work.proofs.laws_of_field_step.Turns.{turn_there}
use Rattle.field_work.specs.of_advance.Advance.{of_state, advance_of, steps_of, advance_candidates}
use Rattle.field_work.specs.of_begin.Begin.{WorkSlices}
use Rattle.field_work.specs.of_insert_job.Field.{begun_job, empty_field, inserts_of, inserted_field}
use Rattle.field_work.specs.of_insert_job.Job.{wedge_in}
use Rattle.field_work.specs.of_run_steps.Run.{WorkResult, refused, field, budgeted, loop_of}
use Rattle.field_work.specs.Work.{and_loop, then_offered, work_of, work_candidates}
use Rattle.work_laws.specs.Kept.{EndsIn, SoundCandidate, WorkKeeps}

next_ends : (P Q : State → Type 0) (r : Result) (f : State → Result) → EndsIn P r → ((t : State) → P t → EndsIn Q (f t)) → EndsIn Q (and_next r f)
unfolding and_next
next_ends P Q (state.stopped k) f h g = tt
next_ends P Q (state.went t) f h g = g t h

both : {A : Type 0} (P Q : A → Type 0) (l : List A) → All P l → All Q l → All (λ (x : A). P x × Q x) l
both P Q [] p q = tt
both P Q (x ∷ l) p q = ((p.0, q.0), both P Q l p.1 q.1)

-- what holds of what is inserted, and of a field, if there is one
abbrev InsertEnds : (Inserted → Type 0) → InsertResult → Type 0
InsertEnds Q (stopped k) = Unit {0}
InsertEnds Q (went s) = Q s

abbrev Done : (Inserted → Type 0) → WorkResult → Type 0
Done Q (refused k) = Unit {0}
Done Q (field x steps) = Q x

nothing_entered : (es : List FaceEntry) → es ++ entries_in [] ≡ es
unfolding entries_in
nothing_entered es = append-nil es

-- ---- the state
module _ (limit : Float) (v : List Float) (triangles : List ℕ) (n : ℕ) (valid : ValidTriangles triangles n) (long : (e : ℕ) → e < length (edges triangles) → EdgeLength (len v triangles e))
    (cuts windows : ℕ) (flags : List ℕ) (P : List Candidate → State → Type 0) (K : WorkKeeps limit v triangles cuts windows flags n P) where
  abbrev Sound : List Candidate → Type 0
  Sound = All (SoundCandidate limit v triangles)

  all_kept : (cs : List Candidate) → Sound cs → (past : List Candidate) (s : State) → P past s → EndsIn (P (past ++ cs)) (add_all cuts windows limit flags (edge_data v triangles) cs s)
  unfolding add_all
  all_kept [] a past s h = subst (λ (l : List Candidate). P l s) (sym (append-nil past)) h
  all_kept (c ∷ cs) a past s h =
      next_ends (P (past ++ (c ∷ []))) (P (past ++ c ∷ cs)) (add_of cuts windows limit flags (edge_data v triangles) c s) (add_all cuts windows limit flags (edge_data v triangles) cs) (K.add past s h c a.0)
      (λ t k. subst (λ (l : List Candidate). EndsIn (P l) (add_all cuts windows limit flags (edge_data v triangles) cs t)) (append_assoc past (c ∷ []) cs) (all_kept cs a.1 (past ++ (c ∷ [])) t k))

  -- a turn
  spread_sound : (x : Spread) → SpreadOf triangles n x → Sound (spread_candidates v triangles x)
  spread_sound x of =
      let cs = spread_candidates v triangles x in
      both (AdmittedProper limit (len v triangles)) (λ (c : Candidate). AdmittedInside limit (len v triangles) c × CandidateThere (GoesInto triangles) c) cs (spread_proper limit v triangles n valid long x of)
      (both (AdmittedInside limit (len v triangles)) (CandidateThere (GoesInto triangles)) cs (spread_inside limit v triangles n valid long x of) (spread_into v triangles n valid x of))

  turn_kept : (t : Option Spread) → ((x : Spread) → Some x ≡ t → SpreadOf triangles n x) → (past : List Candidate) (s : State) → P past s → EndsIn (P (past ++ turn_candidates limit v triangles t)) (after_turn cuts windows limit flags v triangles t s)
  unfolding turn_candidates after_turn
  turn_kept None of past s h = subst (λ (l : List Candidate). P l s) (sym (append-nil past)) h
  turn_kept (Some x) of past s h = all_kept (spread_candidates v triangles x) (spread_sound x (of x refl)) past (marked x s) (K.mark past s h x (of x refl))

  with_kept : (past : List Candidate) (s : State) → P past s → (p : Popped × Queue) → p ≡ popping s.stock.queue s.stock.queued → EndsIn (P (past ++ candidates_with limit v triangles s p.0)) (step_with cuts windows limit flags v triangles s p)
  unfolding candidates_with step_with
  with_kept past s h (None, q) is = subst (λ (l : List Candidate). P l s) (sym (append-nil past)) h
  with_kept past s h (Some (x, k), q) is =
      turn_kept (turn_of limit x.item x.key s)
      (λ y. turn_there triangles n valid limit s (K.there past s h) x.item (popped_there n s (K.events past s h) x k q is) x.key (Some y))
      past (after_pop s (Some (x, k), q)) (subst (λ (z : Popped × Queue). P past (after_pop s z)) (sym is) (K.pop past s h))

  -- turns
  advance_kept : (k : ℕ) (past : List Candidate) (s : State) → P past s → EndsIn (P (past ++ advance_candidates cuts windows limit flags v triangles k s)) (advance_of cuts windows limit flags v triangles k s)
  unfolding advance_candidates advance_of of_state and_next
  advance_kept zero past s h = subst (λ (l : List Candidate). P l s) (sym (append-nil past)) h
  advance_kept (suc k) past s h = go (step_of cuts windows limit flags v triangles s) (with_kept past s h (popping s.stock.queue s.stock.queued) refl) (advance_kept k) where
    now : List Candidate
    now = step_candidates limit v triangles s

    go : (r : Result) → EndsIn (P (past ++ now)) r → ((p : List Candidate) (t : State) → P p t → EndsIn (P (p ++ advance_candidates cuts windows limit flags v triangles k t)) (advance_of cuts windows limit flags v triangles k t))
        → EndsIn (P (past ++ (now ++ of_state [] (advance_candidates cuts windows limit flags v triangles k) r))) (and_next r (advance_of cuts windows limit flags v triangles k))
    go (state.stopped m) e ih = tt
    go (state.went t) e ih = subst (λ (l : List Candidate). EndsIn (P l) (advance_of cuts windows limit flags v triangles k t)) (append_assoc past now (advance_candidates cuts windows limit flags v triangles k t)) (ih (past ++ now) t e)

  -- the main loop
  loop_kept : (most : ℕ) (past : List Candidate) (x : Inserted) → P past x.state
      → Done (λ (y : Inserted). P (past ++ advance_candidates cuts windows limit flags v triangles most x.state) y.state × ((idle_of y.state ≡ true) × (y.entries ≡ x.entries))) (loop_of cuts windows limit flags v triangles most x)
  unfolding budgeted
  loop_kept most past x h = go (advance_of cuts windows limit flags v triangles most x.state) (advance_kept most past x.state h) where
    Q : Inserted → Type 0
    Q y = P (past ++ advance_candidates cuts windows limit flags v triangles most x.state) y.state × ((idle_of y.state ≡ true) × (y.entries ≡ x.entries))

    taken : ℕ
    taken = steps_of cuts windows limit flags v triangles most x.state

    go : (r : Result) → EndsIn (P (past ++ advance_candidates cuts windows limit flags v triangles most x.state)) r → Done Q (budgeted x.entries taken r)
    go (state.stopped m) e = tt
    go (state.went t) e = idle (idle_of t) refl where
      idle : (b : Bool) → idle_of t ≡ b → Done Q (cond b (field (record { state = t; entries = x.entries }) taken) (refused 15))
      idle true z = (e, (z, refl))
      idle false z = tt

  -- ---- insertion, into so many slots for entries
  module _ (slots : ℕ) where
    -- and these are entered
    abbrev Entered : List Candidate → List FaceEntry → Inserted → Type 0
    Entered past es t = P past t.state × ((t.entries ≡ es) × (length es ≤ slots))

    added_kept : (past : List Candidate) (es : List FaceEntry) → length es ≤ slots → (r : Result) → EndsIn (P past) r → InsertEnds (Entered past es) (with_entries es r)
    unfolding with_entries
    added_kept past es few (state.stopped k) h = tt
    added_kept past es few (state.went t) h = (h, (refl, few))

    one_kept : (x : Insert) → Sound (candidates_at x) → (past : List Candidate) (s : Inserted) → P past s.state → length s.entries ≤ slots
        → InsertEnds (Entered (past ++ candidates_at x) (s.entries ++ entries_in (x ∷ []))) (insert_one cuts windows slots limit flags (edge_data v triangles) x s)
    unfolding insert_one entries_in
    one_kept (Entry f x) a past s h few = go (ltb (length s.entries) slots) refl where
      es : List FaceEntry
      es = s.entries ++ (record { face = f.0; entry = x } ∷ [])

      go : (b : Bool) → ltb (length s.entries) slots ≡ b → InsertEnds (Entered (past ++ []) es) (cond b (went (record { state = s.state; entries = es })) (stopped (lack_number Entries)))
      go true l = (subst (λ (z : List Candidate). P z s.state) (sym (append-nil past)) h, (refl, omega (arith, ltb-true (length s.entries) slots l, length-append s.entries (record { face = f.0; entry = x } ∷ []))))
      go false l = tt
    one_kept (Offer o) a past s h few =
        let r = add_all cuts windows limit flags (edge_data v triangles) (offer_list o) s.state in
        subst (λ (es : List FaceEntry). InsertEnds (Entered (past ++ offer_list o) es) (with_entries s.entries r)) (sym (append-nil s.entries))
        (added_kept (past ++ offer_list o) s.entries few r (all_kept (offer_list o) a past s.state h))

    next_kept : (Q R : Inserted → Type 0) (r : InsertResult) (f : Inserted → InsertResult) → InsertEnds Q r → ((t : Inserted) → Q t → InsertEnds R (f t)) → InsertEnds R (and_insert r f)
    unfolding and_insert
    next_kept Q R (stopped k) f h g = tt
    next_kept Q R (went t) f h g = g t h

    entries_cons : (x : Insert) (xs : List Insert) → entries_in (x ∷ xs) ≡ entries_in (x ∷ []) ++ entries_in xs
    unfolding entries_in
    entries_cons (Entry f x) xs = refl
    entries_cons (Offer o) xs = refl

    each_kept : (xs : List Insert) → Sound (candidates_in xs) → (past : List Candidate) (s : Inserted) → P past s.state → length s.entries ≤ slots
        → InsertEnds (Entered (past ++ candidates_in xs) (s.entries ++ entries_in xs)) (insert_each cuts windows slots limit flags (edge_data v triangles) xs s)
    unfolding insert_each candidates_in
    each_kept [] a past s h few = (subst (λ (z : List Candidate). P z s.state) (sym (append-nil past)) h, (sym (nothing_entered s.entries), omega (arith, few, ap length (nothing_entered s.entries))))
    each_kept (x ∷ xs) a past s h few =
        let here = past ++ candidates_at x in
        let es = s.entries ++ entries_in (x ∷ []) in
        let Then : Inserted → InsertResult = insert_each cuts windows slots limit flags (edge_data v triangles) xs in
        next_kept (Entered here es) (Entered (past ++ (candidates_at x ++ candidates_in xs)) (s.entries ++ entries_in (x ∷ xs))) (insert_one cuts windows slots limit flags (edge_data v triangles) x s) Then
        (one_kept x (all_left (SoundCandidate limit v triangles) (candidates_at x) (candidates_in xs) a) past s h few)
        (λ t k.
        subst (λ (l : List Candidate). InsertEnds (Entered l (s.entries ++ entries_in (x ∷ xs))) (Then t)) (append_assoc past (candidates_at x) (candidates_in xs))
        (subst (λ (l : List FaceEntry). InsertEnds (Entered (here ++ candidates_in xs) l) (Then t))
        (ap (λ (l : List FaceEntry). l ++ entries_in xs) k.1.0 ∙ append_assoc s.entries (entries_in (x ∷ [])) (entries_in xs) ∙ ap (λ (l : List FaceEntry). s.entries ++ l) (sym (entries_cons x xs)))
        (each_kept xs (all_right (SoundCandidate limit v triangles) (candidates_at x) (candidates_in xs) a) here t k.0 (omega (arith, k.1.1, ap length k.1.0)))))

-- ---- the whole work on a job
module _ (j : Job) (n : ℕ) (valid : ValidTriangles j.triangles n) (long : (e : ℕ) → e < length (edges j.triangles) → EdgeLength (len j.vertices j.triangles e)) (flags : List ℕ) (s : WorkSlices) (c : Cuts) (most : ℕ)
    (P : List Candidate → State → Type 0) (K : WorkKeeps j.limit j.vertices j.triangles (length c.pts) (capacity_of (length s.words) (length s.reals)) flags n P) where
  abbrev windows : ℕ
  windows = capacity_of (length s.words) (length s.reals)

  abbrev first : List Candidate
  first = candidates_in (inserts_of j)

  abbrev turns : Inserted → List Candidate
  turns x = advance_candidates (length c.pts) windows j.limit flags j.vertices j.triangles most x.state

  abbrev loop : Inserted → WorkResult
  loop = loop_of (length c.pts) windows j.limit flags j.vertices j.triangles most

  -- the law holds of the field, no event is queued, and the entries are those of the pieces, in slots that there are
  abbrev pub FieldKept : List Candidate → Inserted → Type 0
  FieldKept past y = P past y.state × ((idle_of y.state ≡ true) × ((y.entries ≡ entries_in (inserts_of j)) × (length y.entries ≤ entry_capacity (length s.entries))))

  done_map : (Q R : Inserted → Type 0) → ((y : Inserted) → Q y → R y) → (r : WorkResult) → Done Q r → Done R r
  done_map Q R f (refused k) h = tt
  done_map Q R f (field y steps) h = f y h

  inserted_kept : (r : InsertResult) → InsertEnds (λ (t : Inserted). P first t.state × ((t.entries ≡ entries_in (inserts_of j)) × (length (entries_in (inserts_of j)) ≤ entry_capacity (length s.entries)))) r
      → Done (FieldKept (first ++ then_offered r turns)) (and_loop r loop)
  unfolding and_loop then_offered
  inserted_kept (stopped k) h = tt
  inserted_kept (went t) h =
      done_map (λ (y : Inserted). P (first ++ turns t) y.state × ((idle_of y.state ≡ true) × (y.entries ≡ t.entries))) (FieldKept (first ++ turns t))
      (λ y k. (k.0, (k.1.0, (k.1.1 ∙ h.1.0, omega (arith, h.1.1, ap length (k.1.1 ∙ h.1.0))))))
      (loop t) (loop_kept j.limit j.vertices j.triangles n valid long (length c.pts) windows flags P K most first t h.0)

  pub work_kept : P [] (empty_field (begun_job j s)).state → All (SoundCandidate j.limit j.vertices j.triangles) first → (x : Inserted) (steps : ℕ) → work_of j flags s c most ≡ field x steps
      → FieldKept (work_candidates j flags s c most) x
  work_kept h a x steps is = subst (Done (FieldKept (work_candidates j flags s c most))) is (go (wedge_in j)) where
    r : InsertResult
    r = inserted_field j flags s c

    go : (b : Bool) → Done (FieldKept (work_candidates j flags s c most)) (cond b (refused 11) (and_loop r loop))
    go true = tt
    go false = inserted_kept r (each_kept j.limit j.vertices j.triangles n valid long (length c.pts) windows flags P K (entry_capacity (length s.entries)) (inserts_of j) a [] (empty_field (begun_job j s)) h (omega arith))
