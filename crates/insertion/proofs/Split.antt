-- Windows and entries don't meet: where a list of inserts goes to its end, the windows are what its candidates alone come to, and the entries are its own, in order. Assumes nothing.
use Rattle.std.specs.declared.option.Option.{Option}
use Prim.Native.Nat.{ℕ}
use native.Mathlib.Omega.{arith}
use mathlib.Core.Bool.{Bool, true, false, cond}
use mathlib.Core.List.{List, [], ◌∷◌, ◌++◌, append-nil, append_assoc}
use mathlib.Core.Path.{◌≡◌, refl, sym, ap, ◌∙◌}
use lib.Dec.{ltb}
use lib.ListN.{length}
use lib.Ieee.{Float}
use Rattle.buffers.specs.declared.FaceId.{FaceId}
use Rattle.buffers.specs.declared.Lack.TheVariants.{Entries}
use Rattle.buffers.specs.Lack.{lack_number}
use Rattle.source_inserts.specs.of_trim_state.State as state
use Rattle.source_inserts.specs.of_trim_state.State.{State, Result, EdgeData}
use Rattle.source_inserts.specs.of_offers.declared.Offered.{Offered}
use Rattle.source_inserts.specs.of_offers.Offers.{and_next, add_all, offer_list}
use Rattle.source_inserts.proofs.laws_of_offers.Offers.{add_append}
use Rattle.source_inserts.specs.of_face_entries.declared.PiecePart.{PiecePart}
use Rattle.source_inserts.specs.declared.Insert.{Insert}
use Rattle.source_inserts.specs.declared.Insert.TheVariants.{Entry, Offer}
use Rattle.source_inserts.specs.Inserts.{candidates_in}
use Rattle.insertion.specs.Insertion.{Inserted, InsertResult, stopped, went, and_insert, with_entries, entries_in, insert_one, insert_each}

abbrev is_stopped : InsertResult → ℕ
is_stopped (stopped n) = 1
is_stopped (went s) = 0

never : {A : Type 0} (n : ℕ) (s : Inserted) → stopped n ≡ went s → A
never n s h = let z : ◌≡◌ {A = ℕ} 1 0 = ap is_stopped h in absurd (omega (arith, z))

-- what a result that went holds; of one that stopped, something
abbrev held : Inserted → InsertResult → Inserted
held d (stopped n) = d
held d (went s) = s

inside : {s t : Inserted} → went s ≡ went t → s ≡ t
inside {s} {t} h = ap (held s) h

module _ (cuts windows slots : ℕ) (limit : Float) (flags : List ℕ) (mesh : EdgeData) where
  abbrev all : List Insert → Inserted → InsertResult
  all = insert_each cuts windows slots limit flags mesh

  pub record Splits (xs : List Insert) (s t : Inserted) : Type 0 where
    pub windows_are : add_all cuts windows limit flags mesh (candidates_in xs) s.state ≡ state.went t.state
    pub entries_are : t.entries ≡ s.entries ++ entries_in xs

  module _ (xs : List Insert) (rest : (s t : Inserted) → all xs s ≡ went t → Splits xs s t) (s t : Inserted) where
    module _ (f : FaceId) (x : PiecePart) where
      abbrev entered : Inserted
      entered = record { state = s.state; entries = s.entries ++ (record { face = f.0; entry = x } ∷ []) }

      entry_more : Splits xs entered t → Splits (Entry f x ∷ xs) s t
      unfolding candidates_in entries_in
      entry_more h = record { windows_are = h.windows_are; entries_are = h.entries_are ∙ append_assoc s.entries (record { face = f.0; entry = x } ∷ []) (entries_in xs) }

      entry_so : (b : Bool) → and_insert (cond b (went entered) (stopped (lack_number Entries))) (all xs) ≡ went t → Splits (Entry f x ∷ xs) s t
      unfolding and_insert
      entry_so true h = entry_more (rest entered t h)
      entry_so false h = never (lack_number Entries) t h

    module _ (o : Option Offered) where
      offer_more : (u : State) → add_all cuts windows limit flags mesh (offer_list o) s.state ≡ state.went u → Splits xs (record { state = u; entries = s.entries }) t → Splits (Offer o ∷ xs) s t
      unfolding candidates_in entries_in and_next
      offer_more u went-so h = record {
        windows_are = add_append cuts windows limit flags mesh (offer_list o) (candidates_in xs) s.state
            ∙ ap (λ (r : Result). and_next r (add_all cuts windows limit flags mesh (candidates_in xs))) went-so
            ∙ h.windows_are;
        entries_are = h.entries_are;
      }

      offer_so : (r : Result) → add_all cuts windows limit flags mesh (offer_list o) s.state ≡ r → and_insert (with_entries s.entries r) (all xs) ≡ went t → Splits (Offer o ∷ xs) s t
      unfolding and_insert with_entries
      offer_so (state.stopped n) is h = never n t h
      offer_so (state.went u) is h = offer_more u is (rest (record { state = u; entries = s.entries }) t h)

  pub inserted_splits : (xs : List Insert) (s t : Inserted) → all xs s ≡ went t → Splits xs s t
  unfolding insert_each insert_one candidates_in entries_in add_all
  inserted_splits [] s t h =
      let same : s ≡ t = inside h in
      record { windows_are = ap (λ (z : Inserted). state.went z.state) same; entries_are = ap (λ (z : Inserted). z.entries) (sym same) ∙ sym (append-nil s.entries) }
  inserted_splits (Entry f x ∷ xs) s t h = entry_so xs (inserted_splits xs) s t f x (ltb (length s.entries) slots) h
  inserted_splits (Offer o ∷ xs) s t h = offer_so xs (inserted_splits xs) s t o (add_all cuts windows limit flags mesh (offer_list o) s.state) refl h
