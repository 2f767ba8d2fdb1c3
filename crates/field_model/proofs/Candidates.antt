-- The candidates that the main loop offers over any queue and over the heap are the same. Assumes nothing.
use Prim.Native.Nat.{ℕ, zero, suc, ◌<◌}
use mathlib.Core.Bool.{Bool}
use mathlib.Core.List.{List, [], ◌++◌}
use mathlib.Core.Path.{◌≡◌, refl, sym, ap, ◌∙◌}
use lib.Ieee.{Float}
use Rattle.heap.specs.declared.Event.{Event}
use Rattle.std.specs.Prelude.{Some}
use Rattle.heap.specs.Queue.{Queue, popping, Popped}
use Rattle.heap.specs.Model.{TakenFrom, taking}
use Rattle.compute_spec.specs.of_trim_model.Model.{Candidate}
use Rattle.compute_spec.specs.of_trim_state.State.{State, Result}
use Rattle.compute_spec.specs.of_offers.Walks.{edge_data}
use Rattle.compute_spec.specs.of_face_entries.Entries.{FaceEntry}
use Rattle.compute_spec.specs.of_insertion.Insertion.{Inserted, InsertResult}
use Rattle.compute_spec.specs.of_field_step.Step.{step_with, turn_candidates, candidates_with}
use Rattle.compute_spec.specs.of_advance.Advance.{of_state, advance_candidates}
use Rattle.compute_spec.proofs.laws_of_advance.More.{candidates_idle}
use Rattle.compute_spec.specs.of_field_work.Work.{then_offered}
use Rattle.field_model.specs.Queue.{QueueKind, OfRest, LeastFirst}
use Rattle.field_model.specs.Field.{FieldState, Reply, or_none, Slots, turn_in, event_in, loop_candidates}
use Rattle.field_model.proofs.Queues.{SamePop, no_event, one_event, pop_same}
use Rattle.field_model.proofs.Playing.{Agreed}
use Rattle.field_model.proofs.Adding.{like, AlikeIn, MeetsIn, both_stopped, both_went}
use Rattle.field_model.proofs.Turns.{turn_same, event_meets}
use Rattle.field_model.proofs.Loop.{idle_of_lem}
use Rattle.field_model.proofs.Inserting.{MeetsInserted, both_refused, both_inserted}

module _ (Q : QueueKind) (L : LeastFirst Q) (slots : Slots) (small : slots.windows < 4294967296) (limit : Float) (pseudo : ℕ → Bool) (flags : List ℕ) (v : List Float) (triangles : List ℕ)
    (named : (e : ℕ) → Agreed pseudo flags ((edge_data v triangles).low e) × Agreed pseudo flags ((edge_data v triangles).high e)) where
  abbrev step : State → Popped × Queue → Result
  step = step_with slots.cuts slots.windows limit flags v triangles

  abbrev heaped : ℕ → State → List Candidate
  heaped = advance_candidates slots.cuts slots.windows limit flags v triangles

  abbrev over : ℕ → FieldState Q.State → List Candidate
  over = loop_candidates Q slots limit pseudo v triangles

  more_heaped : (k : ℕ) (s : State) (p : Popped × Queue) → popping s.stock.queue s.stock.queued ≡ p → heaped (suc k) s ≡ candidates_with limit v triangles s p.0 ++ of_state [] (heaped k) (step s p)
  unfolding advance_candidates
  more_heaped k s p is = ap (λ (p : Popped × Queue). candidates_with limit v triangles s p.0 ++ of_state [] (heaped k) (step s p)) is

  later_same : (k : ℕ) (xs : List FaceEntry) → ((s : State) (q : Q.State) → AlikeIn Q L slots s q → over k (like Q L slots s xs q) ≡ heaped k s) → (r : Reply (FieldState Q.State)) (o : Result) → MeetsIn Q L slots xs r o
      → or_none (over k) r ≡ of_state [] (heaped k) o
  unfolding or_none of_state
  later_same k xs ih _ _ (both_stopped n) = refl
  later_same k xs ih _ _ (both_went s q a) = ih s q a

  loop_candidates_lem : (k : ℕ) (xs : List FaceEntry) (s : State) (q : Q.State) → AlikeIn Q L slots s q → over k (like Q L slots s xs q) ≡ heaped k s
  unfolding loop_candidates taking candidates_with
  loop_candidates_lem zero xs s q a = unfold advance_candidates in refl
  loop_candidates_lem (suc k) xs s q a =
      go (Q.take q) (L.after_take q a.reached) (popping s.stock.queue s.stock.queued) refl (pop_same Q.events slots.events q s.stock.queued s.stock.queue (Q.take q) (L.takes q a.reached) a.same) (loop_candidates_lem k xs) where
        go : (t : TakenFrom Q.State) → OfRest L.Reached t → (p : Popped × Queue) → popping s.stock.queue s.stock.queued ≡ p → SamePop Q.events slots.events t p → ((s : State) (q : Q.State) → AlikeIn Q L slots s q → over k (like Q L slots s xs q) ≡ heaped k s)
            → taking [] (λ (x : Event) (r : Q.State). turn_candidates limit v triangles (turn_in Q slots limit pseudo v triangles x.item x.key (like Q L slots s xs q)) ++ or_none (over k) (event_in Q slots limit pseudo v triangles x r (like Q L slots s xs q))) t ≡ heaped (suc k) s
        go _ reached _ is (no_event heap) ih = sym (candidates_idle slots.cuts slots.windows limit flags v triangles s (idle_of_lem Q L slots small limit pseudo flags v triangles named xs s heap is) (suc k))
        go _ reached _ is (one_event x t n heap same) ih =
            (λ i. turn_candidates limit v triangles (turn_same Q L slots small limit pseudo flags v triangles named x.item x.key s xs q i) ++ or_none (over k) (event_in Q slots limit pseudo v triangles x t (like Q L slots s xs q)))
            ∙ ap (λ (l : List Candidate). candidates_with limit v triangles s (Some (x, n)) ++ l) (later_same k xs ih (event_in Q slots limit pseudo v triangles x t (like Q L slots s xs q)) (step s (Some (x, n), heap)) (event_meets Q L slots small limit pseudo flags v triangles named x n heap s xs q t reached same a))
            ∙ sym (more_heaped k s (Some (x, n), heap) is)

  -- after insertion
  pub offered_same : (k : ℕ) (r : Reply (FieldState Q.State)) (o : InsertResult) → MeetsInserted Q L slots r o → or_none (over k) r ≡ then_offered o (λ (x : Inserted). heaped k x.state)
  unfolding or_none then_offered
  offered_same k _ _ (both_refused n) = refl
  offered_same k _ _ (both_inserted x q a) = loop_candidates_lem k x.entries x.state q a
