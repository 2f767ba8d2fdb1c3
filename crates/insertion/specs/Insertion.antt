-- What the sources of a job come to, one after the other: windows added, and parts of pieces entered in faces. Definitions only.
use Rattle.std.specs.Prelude.{ℕ, ltb, length, Float}
use Rattle.std.proofs.Math.Bool.{cond}
use mathlib.Core.List.{List, [], ◌∷◌, ◌++◌}
use Rattle.buffers.specs.declared.Lack.TheVariants.{Entries}
use Rattle.buffers.specs.Lack.{lack_number}
use Rattle.source_inserts.specs.of_trim_state.State as state
use Rattle.source_inserts.specs.of_trim_state.State.{State, Result, EdgeData}
use Rattle.source_inserts.specs.of_offers.Offers.{add_all, offer_list}
use Rattle.source_inserts.specs.of_face_entries.Entries.{FaceEntry}
use Rattle.source_inserts.specs.declared.Insert.{Insert}
use Rattle.source_inserts.specs.declared.Insert.TheVariants.{Entry, Offer}

-- what insertion changes: the state of trimming, and the Rust's `in_face` as the list of its pushes
pub record Inserted : Type 0 where
  pub state : State
  pub entries : List FaceEntry

-- a refusal by its number in 01, or what there is afterwards
pub data InsertResult : Type 0 where
  stopped : ℕ → InsertResult
  went : Inserted → InsertResult

unfoldable pub and_insert : InsertResult → (Inserted → InsertResult) → InsertResult
and_insert (stopped n) next = stopped n
and_insert (went s) next = next s

-- windows were added, and the entries stay
unfoldable pub with_entries : List FaceEntry → Result → InsertResult
with_entries es (state.stopped n) = stopped n
with_entries es (state.went s) = went (record { state = s; entries = es })

-- the entries of a list of inserts, in order
unfoldable pub entries_in : List Insert → List FaceEntry
entries_in [] = []
entries_in (Entry f x ∷ xs) = record { face = f.0; entry = x } ∷ entries_in xs
entries_in (Offer o ∷ xs) = entries_in xs

-- the counts of the buffers of cuts, windows and face entries, the limit, the flags of the vertices, and the edges
module _ (cuts windows slots : ℕ) (limit : Float) (flags : List ℕ) (mesh : EdgeData) where
  -- `in_face.entry(f).or_default().push(x)`, which 17 stops, or `add`
  unfoldable pub insert_one : Insert → Inserted → InsertResult
  unfolding with_entries
  insert_one (Entry f x) s =
      cond (ltb (length s.entries) slots)
      (went (record { state = s.state; entries = s.entries ++ (record { face = f.0; entry = x } ∷ []) }))
      (stopped (lack_number Entries))
  insert_one (Offer o) s = with_entries s.entries (add_all cuts windows limit flags mesh (offer_list o) s.state)

  -- the first that there is no slot for stops them
  unfoldable pub insert_each : List Insert → Inserted → InsertResult
  unfolding and_insert
  insert_each [] s = went s
  insert_each (x ∷ xs) s = and_insert (insert_one x s) (insert_each xs)
