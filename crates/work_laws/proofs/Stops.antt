-- The numbers that stop the work on a job are 11 to 15 and 17, and it takes no more steps than it is allowed: work_ends. Assumes nothing.
use Rattle.std.specs.declared.option.Option.{Option}
use Rattle.std.specs.declared.option.Option.TheVariants.{None, Some}
use Prim.Native.Nat.{ℕ, zero, suc, ◌+◌, ◌*◌, ◌≤◌}
use native.Mathlib.Omega.{arith}
use mathlib.Core.Bool.{Bool, cond, ◌&&◌}
use mathlib.Core.List.{List, [], ◌∷◌, ◌++◌}
use mathlib.Core.Logic.{◌⊎◌, inl, inr}
use mathlib.Core.Path.{◌≡◌, refl}
use lib.Dec.{eqb, leb, ltb}
use lib.ListN.{length, get_or}
use lib.Ieee.{Float, lt, le}
use Rattle.last_pass.specs.of_better.Stretches.{better_of}
use Rattle.heap.specs.declared.Event.{Event}
use Rattle.heap.specs.declared.Item.TheVariants.{Vertex as Item-as-Vertex}
use Rattle.std.specs.Prelude.{None, Some}
use Rattle.std.specs.Prelude.{Err, Ok}
use Rattle.buffers.specs.declared.Lack.TheVariants.{Windows, Events, Cuts as Lack·Cuts, Entries}
use Rattle.heap.specs.Queue.{Queue, pushing, popping, Popped, Pushed}
use Rattle.windows.specs.declared.WindowRecord.{WindowRecord}
use Rattle.windows.specs.Windows.{capacity_of}
use Rattle.actions.specs.Actions as actions
use Rattle.actions.specs.Actions.{Action, list, make, trim, kill, push, touch, wins_after, Stock, stock, Outcome, distance_of, with_distance, queueing, and_then, act, play}
use Rattle.job_checks.specs.Job.{Job}
use Rattle.last_pass.specs.of_trim_model.Intervals.{tiny_of}
use Rattle.last_pass.specs.of_trim_model.Windows.{Window}
use Rattle.last_pass.specs.of_trim_model.Add.{add_to}
use Rattle.last_pass.specs.of_trim_model.Model.{Candidate, as_window, admits}
use Rattle.last_pass.proofs.laws_of_trim_model.Ranks.{by_cases}
use Rattle.last_pass.specs.of_trim_state.Trace.{adding}
use Rattle.last_pass.specs.of_trim_state.State as state
use Rattle.last_pass.specs.of_trim_state.State.{State, Result, EdgeData, edge_in, put, finish, admit_of, add_of}
use Rattle.inside_edges.specs.of_cut_lists.Buffers.{Cuts}
use Rattle.inside_edges.specs.of_offers.Offers.{and_next, add_all, offer_list}
use Rattle.inside_edges.specs.of_offers.Walks.{edge_data}
use Rattle.inside_edges.specs.of_face_entries.Entries.{FaceEntry}
use Rattle.inside_edges.specs.of_face_entries.Buffers.{entry_capacity}
use Rattle.field_work.specs.of_source_inserts.declared.Insert.{Insert}
use Rattle.field_work.specs.of_source_inserts.declared.Insert.TheVariants.{Entry, Offer}
use Rattle.field_work.specs.of_insertion.Insertion.{Inserted, InsertResult, stopped, went, and_insert, with_entries, insert_one, insert_each}
use Rattle.field_work.specs.of_spread_offers.Spreading.{spread_candidates}
use Rattle.field_work.specs.of_spread_offers.declared.Spread.{Spread}
use Rattle.field_work.specs.of_field_step.Step.{turn_of, marked, after_turn, step_with, step_of, idle_of}
use Rattle.last_pass.specs.of_pop.State.{after_pop}
use Rattle.field_work.specs.of_advance.Advance.{of_state, advance_of, steps_of}
use Rattle.field_work.specs.of_begin.Begin.{WorkSlices}
use Rattle.field_work.specs.of_insert_job.Field.{begun_job, empty_field, inserts_of, inserted_field}
use Rattle.field_work.specs.of_insert_job.Job.{wedge_in}
use Rattle.field_work.specs.of_run_steps.Run.{WorkResult, refused, field, budgeted, loop_of}
use Rattle.field_work.specs.Work.{and_loop, work_of}

-- a number of a lack: 12, 13, 14 or 17
abbrev Lacks : ℕ → Type 0
Lacks k = (11 ≤ k) × ((k ≤ 15) ⊎ (k ≡ 17))

twelve : Lacks 12
twelve = (omega arith, inl (omega arith))

thirteen : Lacks 13
thirteen = (omega arith, inl (omega arith))

fourteen : Lacks 14
fourteen = (omega arith, inl (omega arith))

seventeen : Lacks 17
seventeen = (omega arith, inr (omega arith))

abbrev Played : Outcome → Type 0
Played (actions.stopped k) = Lacks k
Played (actions.went s) = Unit {0}

abbrev Stepped : Result → Type 0
Stepped (state.stopped k) = Lacks k
Stepped (state.went s) = Unit {0}

abbrev InsertedSo : InsertResult → Type 0
InsertedSo (stopped k) = Lacks k
InsertedSo (went s) = Unit {0}

queueing_stops : (made : ℕ) (vertex : List Float) (x : Pushed × Queue) → Played (queueing made vertex x)
unfolding queueing
queueing_stops made vertex (Err Windows, q) = twelve
queueing_stops made vertex (Err Events, q) = thirteen
queueing_stops made vertex (Err Lack·Cuts, q) = fourteen
queueing_stops made vertex (Err Entries, q) = seventeen
queueing_stops made vertex (Ok n, q) = tt

next_stops : (r : Result) (f : State → Result) → Stepped r → ((s : State) → Stepped (f s)) → Stepped (and_next r f)
unfolding and_next
next_stops (state.stopped k) f h g = h
next_stops (state.went s) f h g = g s

module _ (cuts windows : ℕ) (limit : Float) (flags : List ℕ) where
  act_stops : (a : Action) (k : Stock) → Played (act cuts windows limit flags a k)
  unfolding act
  act_stops (list n) k = by_cases (λ (b : Bool). Played (cond b (actions.went k) (actions.stopped 14))) (leb n cuts) (λ y. tt) (λ y. fourteen)
  act_stops (make x) k = by_cases (λ (b : Bool). Played (cond b (actions.went (stock (suc k.made) k.queued k.queue k.vertex)) (actions.stopped 12))) (ltb k.made windows) (λ y. tt) (λ y. twelve)
  act_stops (trim i b0 b1 low) k = tt
  act_stops (kill i) k = tt
  act_stops (push e) k = queueing_stops k.made k.vertex (pushing k.queue k.queued e)
  act_stops (touch v d) k =
      let vertex = with_distance k.vertex v d in
      let e : Event = record { key = d; item = Item-as-Vertex (record { 0 = v }) } in
      let q = queueing k.made vertex (pushing k.queue k.queued e) in
      let r = actions.went (stock k.made k.queued k.queue vertex) in
      by_cases (λ (b : Bool). Played (cond b (cond (eqb (get_or flags (3 * v + 2) 0) 1 && le d limit) q r) (actions.went k))) (lt d (distance_of k.vertex v))
      (λ y. by_cases (λ (b : Bool). Played (cond b q r)) (eqb (get_or flags (3 * v + 2) 0) 1 && le d limit) (λ z. queueing_stops k.made vertex (pushing k.queue k.queued e)) (λ z. tt))
      (λ y. tt)

  then_stops : (o : Outcome) (f : Stock → Outcome) → Played o → ((k : Stock) → Played (f k)) → Played (and_then o f)
  unfolding and_then
  then_stops (actions.stopped k) f h g = h
  then_stops (actions.went k) f h g = g k

  play_stops : (todo : List Action) (k : Stock) → Played (play cuts windows limit flags todo k)
  unfolding play
  play_stops [] k = tt
  play_stops (a ∷ rest) k = then_stops (act cuts windows limit flags a k) (play cuts windows limit flags rest) (act_stops a k) (play_stops rest)

  finish_stops : (wins : List WindowRecord) (live : ℕ → List Window) (o : Outcome) → Played o → Stepped (finish wins live o)
  unfolding finish
  finish_stops wins live (actions.stopped k) h = h
  finish_stops wins live (actions.went k) h = tt

  module _ (mesh : EdgeData) where
    add_stops : (c : Candidate) (s : State) → Stepped (add_of cuts windows limit flags mesh c s)
    unfolding add_of admit_of
    add_stops c s =
        let e = c.edge in
        let todo = adding (edge_in mesh e) (as_window c) (s.live e) s.stock.made in
        by_cases (λ (b : Bool). Stepped (cond b (admit_of cuts windows limit flags mesh c s) (state.went s))) (admits limit mesh.len c)
        (λ y. finish_stops (wins_after todo s.wins) (put e (add_to better_of (tiny_of (mesh.len e)) (as_window c) (s.live e) s.stock.made).live s.live) (play cuts windows limit flags todo s.stock) (play_stops todo s.stock))
        (λ y. tt)

    adds_stop : (cs : List Candidate) (s : State) → Stepped (add_all cuts windows limit flags mesh cs s)
    unfolding add_all
    adds_stop [] s = tt
    adds_stop (c ∷ cs) s = next_stops (add_of cuts windows limit flags mesh c s) (add_all cuts windows limit flags mesh cs) (add_stops c s) (adds_stop cs)

    -- ---- insertion
    with_stops : (es : List FaceEntry) (r : Result) → Stepped r → InsertedSo (with_entries es r)
    unfolding with_entries
    with_stops es (state.stopped k) h = h
    with_stops es (state.went s) h = tt

    one_stops : (slots : ℕ) (x : Insert) (s : Inserted) → InsertedSo (insert_one cuts windows slots limit flags mesh x s)
    unfolding insert_one
    one_stops slots (Entry f x) s =
        by_cases (λ (b : Bool). InsertedSo (cond b (went (record { state = s.state; entries = s.entries ++ (record { face = f.0; entry = x } ∷ []) })) (stopped 17))) (ltb (length s.entries) slots) (λ y. tt) (λ y. (omega arith, inr refl))
    one_stops slots (Offer o) s = with_stops s.entries (add_all cuts windows limit flags mesh (offer_list o) s.state) (adds_stop (offer_list o) s.state)

    then_insert : (r : InsertResult) (f : Inserted → InsertResult) → InsertedSo r → ((s : Inserted) → InsertedSo (f s)) → InsertedSo (and_insert r f)
    unfolding and_insert
    then_insert (stopped k) f h g = h
    then_insert (went s) f h g = g s

    each_stops : (slots : ℕ) (xs : List Insert) (s : Inserted) → InsertedSo (insert_each cuts windows slots limit flags mesh xs s)
    unfolding insert_each
    each_stops slots [] s = tt
    each_stops slots (x ∷ xs) s = then_insert (insert_one cuts windows slots limit flags mesh x s) (insert_each cuts windows slots limit flags mesh xs) (one_stops slots x s) (each_stops slots xs)

  -- ---- the main loop
  module _ (v : List Float) (triangles : List ℕ) where
    turn_stops : (t : Option Spread) (s : State) → Stepped (after_turn cuts windows limit flags v triangles t s)
    unfolding after_turn
    turn_stops None s = tt
    turn_stops (Some x) s = adds_stop (edge_data v triangles) (spread_candidates v triangles x) (marked x s)

    step_stops : (s : State) (p : Popped × Queue) → Stepped (step_with cuts windows limit flags v triangles s p)
    unfolding step_with
    step_stops s (None, q) = tt
    step_stops s (Some (x, k), q) = turn_stops (turn_of limit x.item x.key s) (after_pop s (Some (x, k), q))

    advance_stops : (k : ℕ) (s : State) → Stepped (advance_of cuts windows limit flags v triangles k s)
    unfolding advance_of
    advance_stops zero s = tt
    advance_stops (suc k) s = next_stops (step_of cuts windows limit flags v triangles s) (advance_of cuts windows limit flags v triangles k) (step_stops s (popping s.stock.queue s.stock.queued)) (advance_stops k)

    steps_few : (k : ℕ) (s : State) → steps_of cuts windows limit flags v triangles k s ≤ k
    unfolding steps_of of_state
    steps_few zero s = omega arith
    steps_few (suc k) s = by_cases (λ (b : Bool). cond b 0 (suc (of_state 0 (steps_of cuts windows limit flags v triangles k) (step_of cuts windows limit flags v triangles s))) ≤ suc k) (idle_of s) (λ y. omega arith) (λ y. go (step_of cuts windows limit flags v triangles s) (steps_few k)) where
      go : (r : Result) → ((t : State) → steps_of cuts windows limit flags v triangles k t ≤ k) → suc (of_state 0 (steps_of cuts windows limit flags v triangles k) r) ≤ suc k
      go (state.stopped m) ih = omega arith
      go (state.went t) ih = let z = ih t in omega (arith, z)

-- ---- the whole: 11 to 15 or 17, or no more steps than so many
abbrev pub WorkEnds : ℕ → WorkResult → Type 0
WorkEnds most (refused k) = (11 ≤ k) × ((k ≤ 15) ⊎ (k ≡ 17))
WorkEnds most (field x n) = n ≤ most

budget_ends : (most : ℕ) (xs : List FaceEntry) (n : ℕ) → n ≤ most → (r : Result) → Stepped r → WorkEnds most (budgeted xs n r)
unfolding budgeted
budget_ends most xs n h (state.stopped k) z = z
budget_ends most xs n h (state.went s) z = by_cases (λ (b : Bool). WorkEnds most (cond b (field (record { state = s; entries = xs }) n) (refused 15))) (idle_of s) (λ y. h) (λ y. (omega arith, inl (omega arith)))

loop_ends : (most : ℕ) (r : InsertResult) (loop : Inserted → WorkResult) → InsertedSo r → ((x : Inserted) → WorkEnds most (loop x)) → WorkEnds most (and_loop r loop)
unfolding and_loop
loop_ends most (stopped k) loop h g = h
loop_ends most (went x) loop h g = g x

pub work_ends : (j : Job) (flags : List ℕ) (s : WorkSlices) (c : Cuts) (most : ℕ) → WorkEnds most (work_of j flags s c most)
work_ends j flags s c most =
    let cuts = length c.pts in
    let windows = capacity_of (length s.words) (length s.reals) in
    by_cases (λ (b : Bool). WorkEnds most (cond b (refused 11) (and_loop (inserted_field j flags s c) (loop_of cuts windows j.limit flags j.vertices j.triangles most)))) (wedge_in j)
    (λ y. (omega arith, inl (omega arith)))
    (λ y. loop_ends most (inserted_field j flags s c) (loop_of cuts windows j.limit flags j.vertices j.triangles most)
    (each_stops cuts windows j.limit flags (edge_data j.vertices j.triangles) (entry_capacity (length s.entries)) (inserts_of j) (empty_field (begun_job j s)))
    (λ x. budget_ends most x.entries (steps_of cuts windows j.limit flags j.vertices j.triangles most x.state) (steps_few cuts windows j.limit flags j.vertices j.triangles most x.state)
    (advance_of cuts windows j.limit flags j.vertices j.triangles most x.state) (advance_stops cuts windows j.limit flags j.vertices j.triangles most x.state)))
