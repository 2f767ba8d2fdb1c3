-- The pieces of a job inserted over any queue and over the heap, from a field without windows on. Assumes nothing.
use Prim.Native.Nat.{ℕ, ◌<◌, min}
use native.Mathlib.Omega.{arith}
use mathlib.Core.Bool.{Bool, cond}
use mathlib.Core.List.{List, [], ◌∷◌, ◌++◌}
use mathlib.Core.Path.{◌≡◌, refl, sym, subst}
use lib.Dec.{ltb}
use lib.ListN.{length, length-replicate}
use lib.Ieee.{Float}
use Rattle.float64.specs.Scalar.{zero64}
use Rattle.layout.specs.Layout.{words_per_event}
use Rattle.buffers.specs.Slots.{slots_of}
use Rattle.windows.specs.Windows.{capacity_of}
use Rattle.heap.specs.declared.Event.{Event}
use Rattle.heap.specs.Queue as heap
use Rattle.heap.specs.Queue.{queue}
use Rattle.compute_spec.specs.of_trim_state.State.{Result}
use Rattle.compute_spec.specs.of_offers.Offers.{offer_list, add_all}
use Rattle.compute_spec.specs.of_offers.Walks.{edge_data}
use Rattle.compute_spec.specs.of_face_entries.Entries.{FaceEntry}
use Rattle.compute_spec.specs.of_face_entries.Buffers.{entry_capacity}
use Rattle.compute_spec.specs.of_source_inserts.declared.Insert.{Insert}
use Rattle.compute_spec.specs.of_source_inserts.declared.Insert.TheVariants.{Entry, Offer}
use Rattle.compute_spec.specs.of_insertion.Insertion as insertion
use Rattle.compute_spec.specs.of_insertion.Insertion.{Inserted, InsertResult, and_insert, with_entries, insert_one, insert_each}
use Rattle.compute_spec.specs.of_begin.Begin.{WorkSlices}
use Rattle.compute_spec.specs.of_cut_lists.Buffers.{Cuts}
use Rattle.job_checks.specs.Job.{Job}
use Rattle.compute_spec.specs.of_insert_job.Field.{begun_job, empty_field}
use Rattle.field_model.specs.Queue.{QueueKind, LeastFirst}
use Rattle.field_model.specs.Field.{FieldState, Reply, refused, gives, and_go, Slots, add_all_in, insert_in, insert_all_in}
use Rattle.field_model.proofs.Queues.{SameQueue, none_same}
use Rattle.field_model.proofs.Playing.{either, Agreed}
use Rattle.field_model.proofs.Adding.{like, AlikeIn, MeetsIn, both_stopped, both_went, all_meets}

module _ (Q : QueueKind) (L : LeastFirst Q) (slots : Slots) where
  -- both are refused by one number, or both go on alike
  pub data MeetsInserted : Reply (FieldState Q.State) → InsertResult → Type 1 where
    both_refused : (n : ℕ) → MeetsInserted (refused n) (insertion.stopped n)
    both_inserted : (x : Inserted) (q : Q.State) → AlikeIn Q L slots x.state q → MeetsInserted (gives (like Q L slots x.state x.entries q)) (insertion.went x)

  entries_meet : (xs : List FaceEntry) (r : Reply (FieldState Q.State)) (o : Result) → MeetsIn Q L slots xs r o → MeetsInserted r (with_entries xs o)
  unfolding with_entries
  entries_meet xs _ _ (both_stopped n) = both_refused n
  entries_meet xs _ _ (both_went s q a) = both_inserted (record { state = s; entries = xs }) q a

  then_inserted : (r : Reply (FieldState Q.State)) (o : InsertResult) (f : FieldState Q.State → Reply (FieldState Q.State)) (g : Inserted → InsertResult) → MeetsInserted r o
      → ((x : Inserted) (q : Q.State) → AlikeIn Q L slots x.state q → MeetsInserted (f (like Q L slots x.state x.entries q)) (g x)) → MeetsInserted (and_go r f) (and_insert o g)
  unfolding and_go and_insert
  then_inserted _ _ f g (both_refused n) h = both_refused n
  then_inserted _ _ f g (both_inserted x q a) h = h x q a

  module _ (small : slots.windows < 4294967296) (limit : Float) (pseudo : ℕ → Bool) (flags : List ℕ) (v : List Float) (triangles : List ℕ)
      (named : (e : ℕ) → Agreed pseudo flags ((edge_data v triangles).low e) × Agreed pseudo flags ((edge_data v triangles).high e)) where
    insert_meets : (i : Insert) (x : Inserted) (q : Q.State) → AlikeIn Q L slots x.state q
        → MeetsInserted (insert_in Q slots limit pseudo v triangles i (like Q L slots x.state x.entries q)) (insert_one slots.cuts slots.windows slots.entries limit flags (edge_data v triangles) i x)
    unfolding insert_in insert_one
    insert_meets (Entry g y) x q a =
        let more : List FaceEntry = x.entries ++ (record { face = g.0; entry = y } ∷ []) in
        either (λ (b : Bool). MeetsInserted (cond b (gives (like Q L slots x.state more q)) (refused 17)) (cond b (insertion.went (record { state = x.state; entries = more })) (insertion.stopped 17))) (ltb (length x.entries) slots.entries)
        (both_inserted (record { state = x.state; entries = more }) q a) (both_refused 17)
    insert_meets (Offer o) x q a =
        entries_meet x.entries (add_all_in Q slots limit pseudo v triangles (offer_list o) (like Q L slots x.state x.entries q)) (add_all slots.cuts slots.windows limit flags (edge_data v triangles) (offer_list o) x.state)
        (all_meets Q L slots small limit pseudo flags v triangles named (offer_list o) x.state x.entries q a)

    pub each_meets : (is : List Insert) (x : Inserted) (q : Q.State) → AlikeIn Q L slots x.state q
        → MeetsInserted (insert_all_in Q slots limit pseudo v triangles is (like Q L slots x.state x.entries q)) (insert_each slots.cuts slots.windows slots.entries limit flags (edge_data v triangles) is x)
    unfolding insert_all_in insert_each
    each_meets [] x q a = both_inserted x q a
    each_meets (i ∷ is) x q a =
        then_inserted (insert_in Q slots limit pseudo v triangles i (like Q L slots x.state x.entries q)) (insert_one slots.cuts slots.windows slots.entries limit flags (edge_data v triangles) i x)
        (insert_all_in Q slots limit pseudo v triangles is) (insert_each slots.cuts slots.windows slots.entries limit flags (edge_data v triangles) is)
        (insert_meets i x q a) (λ y r b. each_meets is y r b)

-- ---- at first
-- how many slots the slices have
abbrev pub work_slots : WorkSlices → Cuts → Slots
work_slots s c = record {
  windows = capacity_of (length s.words) (length s.reals);
  events = min (slots_of (length s.events) words_per_event) (slots_of (length s.keys) 1);
  cuts = length c.pts;
  entries = entry_capacity (length s.entries);
  vertex_reals_held = length s.vertex;
}

-- zeroed slices have as many slots
begun_slots : (j : Job) (s : WorkSlices) → heap.slots (queue (begun_job j s).keys (begun_job j s).events) ≡ min (slots_of (length s.events) words_per_event) (slots_of (length s.keys) 1)
unfolding heap.slots
begun_slots j s = rw (length-replicate (length s.keys) zero64, length-replicate {A = ℕ} (length s.events) 0) refl

pub begun_alike : (Q : QueueKind) (L : LeastFirst Q) (j : Job) (s : WorkSlices) (c : Cuts) → AlikeIn Q L (work_slots s c) (empty_field (begun_job j s)).state Q.start
begun_alike Q L j s c =
    let q = queue (begun_job j s).keys (begun_job j s).events in
    record {
      counted = refl;
      few = omega arith;
      reached = L.at_start;
      same = subst (λ (n : ℕ). SameQueue n (Q.events Q.start) 0 q) (begun_slots j s) (subst (λ (l : List Event). SameQueue (heap.slots q) l 0 q) (sym L.starts) (none_same q));
    }
