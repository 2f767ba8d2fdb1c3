-- The main loop over any queue and over the heap: the same refusal, or the same field after as many steps. Assumes nothing.
use Prim.Native.Nat.{ℕ, zero, suc, ◌+◌, ◌<◌}
use native.Mathlib.Omega.{arith}
use mathlib.Core.Bool.{Bool, true, false}
use mathlib.Core.List.{List}
use mathlib.Core.Path.{◌≡◌, refl, sym, ap, ◌∙◌}
use lib.Ieee.{Float}
use Rattle.heap.specs.declared.Event.{Event}
use Rattle.std.specs.Prelude.{None, Some}
use Rattle.heap.specs.Queue.{Queue, popping, Popped}
use Rattle.heap.specs.Model.{TakenFrom, taking}
use Rattle.compute_spec.specs.of_trim_state.State.{State, Result}
use Rattle.compute_spec.specs.of_offers.Offers.{and_next}
use Rattle.compute_spec.specs.of_offers.Walks.{edge_data}
use Rattle.compute_spec.specs.of_face_entries.Entries.{FaceEntry}
use Rattle.compute_spec.specs.of_field_step.Step.{step_with, is_empty, idle_of}
use Rattle.compute_spec.specs.of_advance.Advance.{of_state, advance_of, steps_of}
use Rattle.compute_spec.proofs.laws_of_advance.More.{advance_idle, steps_idle}
use Rattle.compute_spec.specs.of_run_steps.Run.{budgeted}
use Rattle.field_model.specs.Queue.{QueueKind, OfRest, LeastFirst}
use Rattle.field_model.specs.Field.{FieldState, Reply, refused, gives, and_go, Slots, event_in, loop_in}
use Rattle.field_model.specs.Job.{Finished, finished}
use Rattle.field_model.specs.Lent.{finished_of}
use Rattle.field_model.proofs.Queues.{SamePop, no_event, one_event, pop_same}
use Rattle.field_model.proofs.Playing.{Agreed}
use Rattle.field_model.proofs.Adding.{like, AlikeIn, MeetsIn, both_stopped, both_went}
use Rattle.field_model.proofs.Turns.{event_meets}

module _ (Q : QueueKind) (L : LeastFirst Q) (slots : Slots) (small : slots.windows < 4294967296) (limit : Float) (pseudo : ℕ → Bool) (flags : List ℕ) (v : List Float) (triangles : List ℕ)
    (named : (e : ℕ) → Agreed pseudo flags ((edge_data v triangles).low e) × Agreed pseudo flags ((edge_data v triangles).high e)) (xs : List FaceEntry) where
  abbrev step : State → Popped × Queue → Result
  step = step_with slots.cuts slots.windows limit flags v triangles

  abbrev advance : ℕ → State → Result
  advance = advance_of slots.cuts slots.windows limit flags v triangles

  abbrev taken : ℕ → State → ℕ
  taken = steps_of slots.cuts slots.windows limit flags v triangles

  -- what each comes to from a state on
  abbrev over : ℕ → ℕ → State → Q.State → Reply Finished
  over k steps s q = and_go (loop_in Q slots limit pseudo v triangles k steps (like Q L slots s xs q)) finished

  abbrev heaped : ℕ → ℕ → State → Reply Finished
  heaped k steps s = finished_of (budgeted xs (steps + taken k s) (advance k s))

  abbrev ends : ℕ → State → Reply Finished
  ends steps s = gives (record { wins = s.wins; live = s.live; vertex = s.stock.vertex; entries = xs; steps = steps })

  -- no event waits
  idle_end : (s : State) → idle_of s ≡ true → (k steps : ℕ) → heaped k steps s ≡ ends steps s
  unfolding finished_of budgeted
  idle_end s idle k steps =
      let none : steps + taken k s ≡ steps = omega (arith, steps_idle slots.cuts slots.windows limit flags v triangles s idle k) in
      (λ i. finished_of (budgeted xs (none i) (advance_idle slots.cuts slots.windows limit flags v triangles s idle k i))) ∙ rw idle refl

  pub idle_of_lem : (s : State) (heap : Queue) → popping s.stock.queue s.stock.queued ≡ (None, heap) → idle_of s ≡ true
  unfolding is_empty
  idle_of_lem s heap is = ap (λ (p : Popped × Queue). is_empty p.0) is

  busy_of : (s : State) (x : Event) (k : ℕ) (heap : Queue) → popping s.stock.queue s.stock.queued ≡ (Some (x, k), heap) → idle_of s ≡ false
  unfolding is_empty
  busy_of s x k heap is = ap (λ (p : Popped × Queue). is_empty p.0) is

  -- an event waits, and the steps are over
  late : (s : State) (steps : ℕ) → idle_of s ≡ false → heaped 0 steps s ≡ refused 15
  unfolding advance_of steps_of budgeted finished_of
  late s steps busy = rw busy refl

  -- an event waits, and there is a step for it
  more_heaped : (k steps : ℕ) (s : State) (p : Popped × Queue) → popping s.stock.queue s.stock.queued ≡ p → idle_of s ≡ false
      → heaped (suc k) steps s ≡ finished_of (budgeted xs (steps + suc (of_state 0 (taken k) (step s p))) (and_next (step s p) (advance k)))
  unfolding advance_of steps_of
  more_heaped k steps s p is busy = rw busy (ap (λ (p : Popped × Queue). finished_of (budgeted xs (steps + suc (of_state 0 (taken k) (step s p))) (and_next (step s p) (advance k)))) is)

  -- and then
  then_same : (k steps : ℕ) → ((s : State) (q : Q.State) → AlikeIn Q L slots s q → over k (suc steps) s q ≡ heaped k (suc steps) s) → (r : Reply (FieldState Q.State)) (o : Result) → MeetsIn Q L slots xs r o
      → and_go (and_go r (loop_in Q slots limit pseudo v triangles k (suc steps))) finished ≡ finished_of (budgeted xs (steps + suc (of_state 0 (taken k) o)) (and_next o (advance k)))
  unfolding and_go and_next of_state budgeted finished_of
  then_same k steps ih _ _ (both_stopped n) = refl
  then_same k steps ih _ _ (both_went s q a) =
      let z : suc steps + taken k s ≡ steps + suc (taken k s) = omega arith in
      ih s q a ∙ ap (λ (n : ℕ). finished_of (budgeted xs n (advance k s))) z

  pub loop_same : (k steps : ℕ) (s : State) (q : Q.State) → AlikeIn Q L slots s q → over k steps s q ≡ heaped k steps s
  unfolding loop_in taking
  loop_same zero steps s q a = go (Q.take q) (L.after_take q a.reached) (popping s.stock.queue s.stock.queued) refl (pop_same Q.events slots.events q s.stock.queued s.stock.queue (Q.take q) (L.takes q a.reached) a.same) where
    go : (t : TakenFrom Q.State) → OfRest L.Reached t → (p : Popped × Queue) → popping s.stock.queue s.stock.queued ≡ p → SamePop Q.events slots.events t p
        → and_go (taking (gives (like Q L slots s xs q, steps)) (λ (x : Event) (r : Q.State). refused 15) t) finished ≡ heaped 0 steps s
    go _ reached _ is (no_event heap) = unfold and_go in sym (idle_end s (idle_of_lem s heap is) 0 steps)
    go _ reached _ is (one_event x t n heap same) = unfold and_go in sym (late s steps (busy_of s x n heap is))
  loop_same (suc k) steps s q a = go (Q.take q) (L.after_take q a.reached) (popping s.stock.queue s.stock.queued) refl (pop_same Q.events slots.events q s.stock.queued s.stock.queue (Q.take q) (L.takes q a.reached) a.same) (loop_same k (suc steps)) where
    go : (t : TakenFrom Q.State) → OfRest L.Reached t → (p : Popped × Queue) → popping s.stock.queue s.stock.queued ≡ p → SamePop Q.events slots.events t p → ((s : State) (q : Q.State) → AlikeIn Q L slots s q → over k (suc steps) s q ≡ heaped k (suc steps) s)
        → and_go (taking (gives (like Q L slots s xs q, steps)) (λ (x : Event) (r : Q.State). and_go (event_in Q slots limit pseudo v triangles x r (like Q L slots s xs q)) (loop_in Q slots limit pseudo v triangles k (suc steps))) t) finished ≡ heaped (suc k) steps s
    go _ reached _ is (no_event heap) ih = unfold and_go in sym (idle_end s (idle_of_lem s heap is) (suc k) steps)
    go _ reached _ is (one_event x t n heap same) ih =
        then_same k steps ih (event_in Q slots limit pseudo v triangles x t (like Q L slots s xs q)) (step s (Some (x, n), heap)) (event_meets Q L slots small limit pseudo flags v triangles named x n heap s xs q t reached same a)
        ∙ sym (more_heaped k steps s (Some (x, n), heap) is (busy_of s x n heap is))
