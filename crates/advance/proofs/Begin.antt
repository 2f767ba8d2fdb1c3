-- The state that a job's sources leave is such as a turn asks: its windows and the vertices of its events are the mesh's. Assumes nothing.
use Prim.Native.Nat.{ℕ}
use mathlib.Core.Bool.{Bool, cond}
use mathlib.Core.List.{List, [], ◌∷◌, ◌++◌}
use mathlib.Core.Path.{◌≡◌, refl, subst}
use lib.Dec.{ltb}
use lib.ListN.{length}
use lib.Ieee.{Float}
use Rattle.buffers.specs.Lack.{lack_number}
use Rattle.buffers.specs.declared.Lack.TheVariants.{Entries}
use Rattle.insertion.specs.of_better.Claim.{All}
use Rattle.job_checks.specs.Sound.{ValidTriangles}
use Rattle.insertion.specs.of_trim_model.Model.{Candidate}
use Rattle.field_step.proofs.laws_of_trim_model.Ranks.{by_cases}
use Rattle.field_step.proofs.laws_of_trim_model.Lists.{all_map, all_left, all_right}
use Rattle.field_step.specs.of_trim_state.State as state
use Rattle.field_step.specs.of_trim_state.State.{State, Result}
use Rattle.insertion.specs.of_offers.Offers.{add_all, offer_list}
use Rattle.insertion.specs.of_offers.Walks.{edge_data}
use Rattle.insertion.specs.of_face_entries.Entries.{FaceEntry}
use Rattle.insertion.specs.of_source_inserts.declared.Insert.{Insert}
use Rattle.insertion.specs.of_source_inserts.declared.Insert.TheVariants.{Entry, Offer}
use Rattle.insertion.specs.of_source_inserts.Inserts.{candidates_at, candidates_in}
use Rattle.insertion.specs.Insertion.{Inserted, InsertResult, stopped, went, and_insert, with_entries, insert_one, insert_each}
use Rattle.field_step.specs.of_windows_there.There.{GoesInto, CandidateThere, WindowsThere, EndsThere, EventsThere}
use Rattle.field_step.proofs.laws_of_windows_there.Sides.{into_ends}
use Rattle.field_step.proofs.laws_of_windows_there.Kept.{there_all}
use Rattle.field_step.proofs.laws_of_windows_there.Events.{events_all}

module _ (cuts windows slots : ℕ) (limit : Float) (flags : List ℕ) (v : List Float) (triangles : List ℕ) (n : ℕ) (valid : ValidTriangles triangles n) where
  abbrev Good : State → Type 0
  Good s = WindowsThere (GoesInto triangles) s × EventsThere n s

  abbrev Into : List Candidate → Type 0
  Into = All (CandidateThere (GoesInto triangles))

  abbrev Then : InsertResult → Type 0
  Then (stopped k) = Unit {0}
  Then (went t) = Good t.state

  added_good : (es : List FaceEntry) (r : Result) → ((t : State) → r ≡ state.went t → Good t) → Then (with_entries es r)
  unfolding with_entries
  added_good es (state.stopped k) h = tt
  added_good es (state.went t) h = h t refl

  one_good : (x : Insert) → Into (candidates_at x) → (s : Inserted) → Good s.state → Then (insert_one cuts windows slots limit flags (edge_data v triangles) x s)
  unfolding insert_one
  one_good (Entry f x) a s g =
      by_cases (λ (b : Bool). Then (cond b (went (record { state = s.state; entries = s.entries ++ (record { face = f.0; entry = x } ∷ []) })) (stopped (lack_number Entries)))) (ltb (length s.entries) slots) (λ y. g) (λ y. tt)
  one_good (Offer o) a s g =
      added_good s.entries (add_all cuts windows limit flags (edge_data v triangles) (offer_list o) s.state)
      (λ t is. (
        there_all (GoesInto triangles) cuts windows limit flags (edge_data v triangles) (offer_list o) a s.state g.0 t is,
        events_all n cuts windows limit flags (edge_data v triangles) (offer_list o)
            (all_map {P = CandidateThere (GoesInto triangles)} {Q = EndsThere n (edge_data v triangles)} (into_ends v triangles n valid) (offer_list o) a) s.state g.1 t is,
      ))

  next_good : (r : InsertResult) (f : Inserted → InsertResult) → Then r → ((t : Inserted) → Good t.state → Then (f t)) → Then (and_insert r f)
  unfolding and_insert
  next_good (stopped k) f h g = tt
  next_good (went t) f h g = g t h

  all_good : (xs : List Insert) → Into (candidates_in xs) → (s : Inserted) → Good s.state → Then (insert_each cuts windows slots limit flags (edge_data v triangles) xs s)
  unfolding insert_each candidates_in
  all_good [] a s g = g
  all_good (x ∷ xs) a s g =
      next_good (insert_one cuts windows slots limit flags (edge_data v triangles) x s) (insert_each cuts windows slots limit flags (edge_data v triangles) xs)
      (one_good x (all_left (CandidateThere (GoesInto triangles)) (candidates_at x) (candidates_in xs) a) s g) (all_good xs (all_right (CandidateThere (GoesInto triangles)) (candidates_at x) (candidates_in xs) a))

  -- insertion that goes through; `job_into` of windows_there has the candidates of a job
  pub inserted_there : (xs : List Insert) → Into (candidates_in xs) → (s : Inserted) → WindowsThere (GoesInto triangles) s.state → EventsThere n s.state
      → (t : Inserted) → insert_each cuts windows slots limit flags (edge_data v triangles) xs s ≡ went t → WindowsThere (GoesInto triangles) t.state × EventsThere n t.state
  inserted_there xs a s w e t h = subst Then h (all_good xs a s (w, e))
