-- One turn of the main loop over any queue and over the heap. Assumes nothing.
use Rattle.std.specs.declared.option.Option.{Option}
use Rattle.std.specs.declared.option.Option.TheVariants.{None, Some}
use Prim.Native.Nat.{ℕ, ◌<◌, ◌≤◌}
use mathlib.Core.Bool.{Bool}
use mathlib.Core.List.{List}
use mathlib.Core.Path.{◌≡◌, refl, sym, subst, ◌∙◌}
use lib.ListN.{length}
use lib.Ieee.{Float}
use Rattle.heap.specs.declared.Event.{Event}
use Rattle.heap.specs.declared.Item.{Item}
use Rattle.heap.specs.declared.Item.TheVariants.{Window as Item-as-Window, Vertex as Item-as-Vertex}
use Rattle.std.specs.Prelude.{Some}
use Rattle.heap.specs.Queue.{Queue}
use Rattle.windows.specs.declared.WindowRecord.{WindowRecord}
use Rattle.compute_spec.specs.of_trim_state.State.{State}
use Rattle.compute_spec.specs.of_pop.State.{claimed_win, wins_claimed, after_pop}
use Rattle.compute_spec.specs.of_offers.Walks.{edge_data}
use Rattle.compute_spec.specs.of_spread_offers.Spreading.{spread_candidates}
use Rattle.compute_spec.specs.of_face_entries.Entries.{FaceEntry}
use Rattle.compute_spec.specs.of_spread_offers.declared.Spread.{Spread}
use Rattle.compute_spec.specs.of_field_step.Step.{turn_of, marked, after_turn, step_with}
use Rattle.field_model.specs.Queue.{QueueKind, LeastFirst}
use Rattle.field_model.specs.Field.{Slots, turn_in, pass_in, event_in}
use Rattle.field_model.proofs.Queues.{SameQueue}
use Rattle.field_model.proofs.Playing.{length_adjust, Agreed}
use Rattle.field_model.proofs.Adding.{like, AlikeIn, MeetsIn, both_went, all_meets}

claimed_length : (x : Item) (wins : List WindowRecord) → length (wins_claimed x wins) ≡ length wins
unfolding wins_claimed
claimed_length (Item-as-Window id) wins = length_adjust claimed_win id.0 wins
claimed_length (Item-as-Vertex k) wins = refl

module _ (Q : QueueKind) (L : LeastFirst Q) (slots : Slots) (small : slots.windows < 4294967296) (limit : Float) (pseudo : ℕ → Bool) (flags : List ℕ) (v : List Float) (triangles : List ℕ)
    (named : (e : ℕ) → Agreed pseudo flags ((edge_data v triangles).low e) × Agreed pseudo flags ((edge_data v triangles).high e)) where
  pub turn_same : (x : Item) (key : Float) (s : State) (xs : List FaceEntry) (q : Q.State) → turn_in Q slots limit pseudo v triangles x key (like Q L slots s xs q) ≡ turn_of limit x key s
  unfolding turn_in turn_of
  turn_same (Item-as-Window id) key s xs q = refl
  turn_same (Item-as-Vertex k) key s xs q = refl

  pass_meets : (t : Option Spread) (s : State) (xs : List FaceEntry) (q : Q.State) → AlikeIn Q L slots s q
      → MeetsIn Q L slots xs (pass_in Q slots limit pseudo v triangles t (like Q L slots s xs q)) (after_turn slots.cuts slots.windows limit flags v triangles t s)
  unfolding pass_in after_turn
  pass_meets None s xs q a = both_went s q a
  pass_meets (Some c) s xs q a = all_meets Q L slots small limit pseudo flags v triangles named (spread_candidates v triangles c) (marked c s) xs q (record { counted = a.counted; few = a.few; reached = a.reached; same = a.same })

  -- the event is taken out of both
  popped_alike : (x : Event) (k : ℕ) (heap : Queue) (s : State) (q t : Q.State) → L.Reached t → SameQueue slots.events (Q.events t) k heap → AlikeIn Q L slots s q → AlikeIn Q L slots (after_pop s (Some (x, k), heap)) t
  unfolding after_pop
  popped_alike x k heap s q t reached same a = record {
    counted = a.counted ∙ sym (claimed_length x.item s.wins);
    few = subst (λ (n : ℕ). n ≤ slots.windows) (sym (claimed_length x.item s.wins)) a.few;
    reached = reached;
    same = same;
  }

  pub event_meets : (x : Event) (k : ℕ) (heap : Queue) (s : State) (xs : List FaceEntry) (q t : Q.State) → L.Reached t → SameQueue slots.events (Q.events t) k heap → AlikeIn Q L slots s q
      → MeetsIn Q L slots xs (event_in Q slots limit pseudo v triangles x t (like Q L slots s xs q)) (step_with slots.cuts slots.windows limit flags v triangles s (Some (x, k), heap))
  unfolding step_with after_pop
  event_meets x k heap s xs q t reached same a =
      subst (λ (turn : Option Spread). MeetsIn Q L slots xs (pass_in Q slots limit pseudo v triangles turn (like Q L slots (after_pop s (Some (x, k), heap)) xs t)) (step_with slots.cuts slots.windows limit flags v triangles s (Some (x, k), heap)))
      (sym (turn_same x.item x.key s xs q))
      (pass_meets (turn_of limit x.item x.key s) (after_pop s (Some (x, k), heap)) xs t (popped_alike x k heap s q t reached same a))
