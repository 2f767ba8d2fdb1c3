-- The main loop within its budget, from what `advance` answers. Assumes nothing.
use Prim.Native.Nat.{ℕ, ◌-◌, ◌<◌, ◌≤◌}
use mathlib.Core.Bool.{Bool, true, false, cond}
use mathlib.Core.List.{List}
use mathlib.Core.Path.{◌≡◌, refl, sym, ap, subst, ◌∙◌}
use native.Mathlib.Omega.{arith}
use lib.ListN.{length}
use lib.Ieee.{Float}
use Rattle.buffers.specs.declared.Lack.{Lack}
use Rattle.buffers.specs.declared.Lack.TheVariants as lacks
use Rattle.buffers.specs.Lack.{lack_number}
use Rattle.windows.specs.Windows.{capacity_of}
use Rattle.heap.specs.Queue.{Queue, at, slots, popped, popping, Popped}
use Rattle.heap.proofs.Turns.{pop_empty, pop_past, pop_done}
use Rattle.actions.specs.Actions.{Stock}
use Rattle.advance.specs.of_trim_model.Model.{Candidate}
use Rattle.advance.specs.of_trim_state.State.{State, went}
use Rattle.advance.specs.of_cut_lists.Buffers.{Cuts}
use Rattle.insert_job.specs.of_trim.Buffers.{Slices}
use Rattle.insert_job.specs.of_trim.Adding.{snapshot_at}
use Rattle.advance.specs.of_face_entries.Entries.{FaceEntry}
use Rattle.insert_job.specs.of_insertion.declared.InsertCounts.{InsertCounts}
use Rattle.insert_job.specs.declared.InsertRefusal.{InsertRefusal}
use Rattle.std.specs.declared.result.Result.{Result}
use Rattle.insert_job.specs.declared.InsertRefusal.TheVariants.{Wedge, NoSlot}
use Rattle.std.specs.declared.result.Result.TheVariants.{Ok, Err}
use Rattle.insert_job.specs.Job.{JobWithin}
use Rattle.advance.specs.of_field_step.Step.{is_empty, idle_of}
use Rattle.advance.specs.of_field_step.Contract.{FieldStands}
use Rattle.advance.specs.declared.Advanced.{Advanced}
use Rattle.advance.specs.Advance.{steps_of}
use Rattle.advance.specs.Contract.{AdvancesTo}
use Rattle.run_steps.specs.declared.FieldWork.{FieldWork}
use Rattle.run_steps.specs.declared.FieldWork.TheVariants.{Refused, Done}
use Rattle.run_steps.specs.Run.{refused, field, budgeted}
use Rattle.run_steps.specs.Contract.{none_waits, work_answer, RunsTo}

-- ---- whether an event waits
module _ (q : Queue) (n : ℕ) where
  pub none_waits_lem : n ≡ 0 → true ≡ is_empty (popping q n).0
  unfolding is_empty
  none_waits_lem h = ap (λ (z : Popped × Queue). is_empty z.0) (pop_empty q n h)

  pub past_slots : 0 < n → slots q < n → true ≡ is_empty (popping q n).0
  unfolding is_empty
  past_slots h k = ap (λ (z : Popped × Queue). is_empty z.0) (pop_past q n h k)

  pub one_waits : 0 < n → n ≤ slots q → false ≡ is_empty (popping q n).0
  unfolding is_empty
  one_waits h k = ap (λ (z : Popped × Queue). is_empty z.0) (pop_done q n (at q 0) (popped q (n - 1)) h k refl refl)

-- ---- what there is no slot for has a number above 9
pub lack_above : (lack : Lack) → 9 < lack_number lack
lack_above lacks.Windows = omega arith
lack_above lacks.Events = omega arith
lack_above lacks.Cuts = omega arith
lack_above lacks.Entries = omega arith

-- ---- the budget
budget_done : (xs : List FaceEntry) (steps : ℕ) (s : State) → idle_of s ≡ true → budgeted xs steps (went s) ≡ field (record { state = s; entries = xs }) steps
unfolding budgeted
budget_done xs steps s h = rw h refl

budget_spent : (xs : List FaceEntry) (steps : ℕ) (s : State) → idle_of s ≡ false → budgeted xs steps (went s) ≡ refused 15
unfolding budgeted
budget_spent xs steps s h = rw h refl

module _ (limit : Float) (n most : ℕ) (v : List Float) (buffer vw round : List ℕ) (er : List Float) (tw : List ℕ) (tr : List Float) (b : Slices) (c : Cuts) where
  abbrev Runs : InsertCounts → FieldWork → Slices → Type 0
  Runs k r b' = RunsTo limit n most v buffer vw round er tw tr b c (Ok k) r b'

  abbrev Advances : InsertCounts → Result Advanced Lack → Slices → Type 0
  Advances k a b' = AdvancesTo limit n most v buffer vw round er tw tr k.trim b c a b'

  run_stopped : (k : InsertCounts) (lack : Lack) (b' : Slices) → Advances k (Err lack) b' → Runs k (work_answer b'.keys b'.events k.entries (Err lack)) b'
  unfolding budgeted
  run_stopped k lack b' A = record {
    bounded = lack_above lack;
    runs = λ triangles F past s S xs.
        ap (budgeted xs (steps_of (length c.pts) (capacity_of (length b.words) (length b.reals)) limit vw v triangles most s)) (A.advances triangles F past s S).0;
  }

  module _ (k : InsertCounts) (d : Advanced) (b' : Slices) (A : Advances k (Ok d) b') where
    idle_is : (triangles : List ℕ) (past : List Candidate) (s : State) → FieldStands limit v triangles n past s (snapshot_at d.counts b') → idle_of s ≡ none_waits b'.keys b'.events d.counts.queued
    idle_is triangles past s S = ap (λ (z : Stock). is_empty (popping z.queue z.queued).0) S.stands.stock

    run_done : none_waits b'.keys b'.events d.counts.queued ≡ true → Runs k (Done (record { trim = d.counts; entries = k.entries }) d.steps) b'
    run_done h = record {
      bounded = A.bounded;
      runs = λ triangles F past s S xs.
          let cuts = length c.pts in
          let windows = capacity_of (length b.words) (length b.reals) in
          let taken = steps_of cuts windows limit vw v triangles most s in
          let a = A.advances triangles F past s S in
          let g = a.0 in
          record {
            state = g.state;
            is = ap (budgeted xs taken) g.is ∙ budget_done xs taken g.state (idle_is triangles _ g.state g.field ∙ h)
                ∙ ap (field (record { state = g.state; entries = xs })) (sym a.1);
            same_entries = refl;
            stands = g.field;
            untouched = g.untouched;
          };
    }

    run_spent : none_waits b'.keys b'.events d.counts.queued ≡ false → Runs k (Refused 15) b'
    run_spent h = record {
      bounded = omega arith;
      runs = λ triangles F past s S xs.
          let taken = steps_of (length c.pts) (capacity_of (length b.words) (length b.reals)) limit vw v triangles most s in
          let g = (A.advances triangles F past s S).0 in
          ap (budgeted xs taken) g.is ∙ budget_spent xs taken g.state (idle_is triangles _ g.state g.field ∙ h);
    }

    run_went : Runs k (work_answer b'.keys b'.events k.entries (Ok d)) b'
    run_went = go (none_waits b'.keys b'.events d.counts.queued) refl where
      go : (w : Bool) → none_waits b'.keys b'.events d.counts.queued ≡ w → Runs k (cond w (Done (record { trim = d.counts; entries = k.entries }) d.steps) (Refused 15)) b'
      go true h = run_done h
      go false h = run_spent h

  run_each : (k : InsertCounts) (a : Result Advanced Lack) (b' : Slices) → Advances k a b' → Runs k (work_answer b'.keys b'.events k.entries a) b'
  run_each k (Err lack) b' A = run_stopped k lack b' A
  run_each k (Ok d) b' A = run_went k d b' A

  pub run_answer : (k : InsertCounts) (a : Result Advanced Lack) (b' : Slices) (r : FieldWork) → r ≡ work_answer b'.keys b'.events k.entries a → Advances k a b' → Runs k r b'
  run_answer k a b' r e A = subst (λ (z : FieldWork). Runs k z b') (sym e) (run_each k a b' A)

  -- ---- of each answer of insertion
  abbrev From : Result InsertCounts InsertRefusal → FieldWork → Slices → Type 0
  From from r b' = RunsTo limit n most v buffer vw round er tw tr b c from r b'

  pub run_wedge : (from : Result InsertCounts InsertRefusal) → from ≡ Err Wedge → (b' : Slices) → From from (Refused 11) b'
  run_wedge from e b' = subst (λ (z : Result InsertCounts InsertRefusal). From z (Refused 11) b') (sym e) (record { bounded = omega arith; runs = refl })

  pub run_lack : (from : Result InsertCounts InsertRefusal) (lack : Lack) → from ≡ Err (NoSlot lack) → (k : ℕ) → k ≡ lack_number lack → (b' : Slices) → From from (Refused k) b'
  run_lack from lack e k h b' = subst (λ (z : Result InsertCounts InsertRefusal). From z (Refused k) b') (sym e) (record { bounded = subst (λ (z : ℕ). 9 < z) (sym h) (lack_above lack); runs = ap Refused h })

  pub run_from_lem : (from : Result InsertCounts InsertRefusal) (k : InsertCounts) → from ≡ Ok k → (a : Result Advanced Lack) (b' : Slices) (r : FieldWork) → r ≡ work_answer b'.keys b'.events k.entries a → Advances k a b' → From from r b'
  run_from_lem from k e a b' r h A = subst (λ (z : Result InsertCounts InsertRefusal). From z r b') (sym e) (run_answer k a b' r h A)

pub counts_within : (windows : ℕ) (from : Result InsertCounts InsertRefusal) (k : InsertCounts) → from ≡ Ok k → JobWithin windows from → k.trim.made ≤ windows
counts_within windows from k e h = subst (JobWithin windows) e h

-- ---- the answer after the turns
module _ (keys : List Float) (events : List ℕ) (entries : ℕ) (a : Result Advanced Lack) where
  pub after_stopped : (lack : Lack) → a ≡ Err lack → (k : ℕ) → k ≡ lack_number lack → Refused k ≡ work_answer keys events entries a
  after_stopped lack e k h = ap Refused h ∙ sym (ap (work_answer keys events entries) e)

  module _ (d : Advanced) (e : a ≡ Ok d) where
    pub after_done : none_waits keys events d.counts.queued ≡ true → Done (record { trim = d.counts; entries = entries }) d.steps ≡ work_answer keys events entries a
    after_done h = sym (ap (λ (w : Bool). cond w (Done (record { trim = d.counts; entries = entries }) d.steps) (Refused 15)) h) ∙ sym (ap (work_answer keys events entries) e)

    pub after_spent : none_waits keys events d.counts.queued ≡ false → Refused 15 ≡ work_answer keys events entries a
    after_spent h = sym (ap (λ (w : Bool). cond w (Done (record { trim = d.counts; entries = entries }) d.steps) (Refused 15)) h) ∙ sym (ap (work_answer keys events entries) e)
