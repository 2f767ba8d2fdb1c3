-- No more windows are made than there are slots for, no more events are queued, and the vertices' reals stay as many: stock_add, stock_pop. Assumes nothing.
use Prim.Native.Nat.{ℕ, suc, ◌*◌, ◌+◌, ◌-◌, ◌≤◌}
use native.Mathlib.Omega.{arith}
use mathlib.Core.Bool.{Bool, true, false, cond, ◌&&◌}
use mathlib.Core.List.{List, [], ◌∷◌}
use mathlib.Core.Path.{◌≡◌, refl, ◌∙◌}
use borrow.Author.Tests.{ltb-true, leb-true}
use lib.Dec.{eqb, leb, ltb}
use lib.ListN.{length, get_or, length-set}
use lib.Ieee.{Float, lt, le}
use Rattle.last_pass.specs.of_better.Stretches.{better_of}
use Rattle.heap.specs.declared.Item.TheVariants.{Vertex as Item-as-Vertex}
use Rattle.std.specs.Prelude.{Err, Ok}
use Rattle.buffers.specs.declared.Lack.TheVariants.{Events}
use Rattle.heap.specs.declared.Event.{Event}
use Rattle.std.specs.Prelude.{None, Some}
use Rattle.heap.specs.Queue.{Queue, at, slots, pushed, popped, pushing, popping, Popped}
use Rattle.heap.proofs.SameAnswers.{push_slots, pop_slots}
use Rattle.windows.specs.declared.WindowRecord.{WindowRecord}
use Rattle.actions.specs.Actions.{Action, list, make, trim, kill, push, touch, wins_after, Stock, stock, Outcome, stopped, went, distance_of, with_distance, queueing, and_then, act, play}
use Rattle.last_pass.specs.of_trim_model.Intervals.{tiny_of}
use Rattle.last_pass.specs.of_trim_model.Windows.{Window}
use Rattle.last_pass.specs.of_trim_model.Add.{add_to}
use Rattle.last_pass.specs.of_trim_model.Model.{Candidate, as_window, admits}
use Rattle.last_pass.proofs.laws_of_trim_model.Ranks.{by_cases}
use Rattle.last_pass.specs.of_trim_state.Trace.{adding}
use Rattle.last_pass.specs.of_trim_state.State as state
use Rattle.last_pass.specs.of_trim_state.State.{State, EdgeData, edge_in, put, finish, admit_of, add_of}
use Rattle.last_pass.specs.of_pop.State.{after_pop}
use Rattle.work_laws.specs.Kept.{EndsIn}

module _ (cuts windows : ℕ) (limit : Float) (flags : List ℕ) (reals : ℕ) where
  abbrev pub Within : Stock → Type 0
  Within k = (k.made ≤ windows) × ((length k.vertex ≡ reals) × (k.queued ≤ slots k.queue))

  abbrev Ended : Outcome → Type 0
  Ended (stopped n) = Unit {0}
  Ended (went k) = Within k

  queueing_within : (made : ℕ) (vertex : List Float) (q : Queue) (m : ℕ) (e : Event) → made ≤ windows → length vertex ≡ reals → Ended (queueing made vertex (pushing q m e))
  unfolding queueing
  queueing_within made vertex q m e h l = go (ltb m (slots q)) refl where
    go : (b : Bool) → ltb m (slots q) ≡ b → Ended (queueing made vertex (cond b (Ok (m + 1), pushed q m e) (Err Events, q)))
    go true z = (h, (l, omega (arith, ltb-true m (slots q) z, push_slots q m e)))
    go false z = tt

  act_within : (a : Action) (k : Stock) → Within k → Ended (act cuts windows limit flags a k)
  unfolding act
  act_within (list n) k h = by_cases (λ (b : Bool). Ended (cond b (went k) (stopped 14))) (leb n cuts) (λ y. h) (λ y. tt)
  act_within (make x) k h = go (ltb k.made windows) refl where
    go : (b : Bool) → ltb k.made windows ≡ b → Ended (cond b (went (stock (suc k.made) k.queued k.queue k.vertex)) (stopped 12))
    go true l = (omega (arith, ltb-true k.made windows l), h.1)
    go false l = tt
  act_within (trim i b0 b1 low) k h = h
  act_within (kill i) k h = h
  act_within (push e) k h = queueing_within k.made k.vertex k.queue k.queued e h.0 h.1.0
  act_within (touch v d) k h =
      let vertex = with_distance k.vertex v d in
      let long : length vertex ≡ reals = length-set k.vertex (2 * v + 0) d ∙ h.1.0 in
      let q = queueing k.made vertex (pushing k.queue k.queued (record { key = d; item = Item-as-Vertex (record { 0 = v }) })) in
      let r = went (stock k.made k.queued k.queue vertex) in
      by_cases (λ (b : Bool). Ended (cond b (cond (eqb (get_or flags (3 * v + 2) 0) 1 && le d limit) q r) (went k))) (lt d (distance_of k.vertex v))
      (λ y. by_cases (λ (b : Bool). Ended (cond b q r)) (eqb (get_or flags (3 * v + 2) 0) 1 && le d limit) (λ z. queueing_within k.made vertex k.queue k.queued (record { key = d; item = Item-as-Vertex (record { 0 = v }) }) h.0 long) (λ z. (h.0, (long, h.1.1))))
      (λ y. h)

  then_within : (o : Outcome) (f : Stock → Outcome) → Ended o → ((k : Stock) → Within k → Ended (f k)) → Ended (and_then o f)
  unfolding and_then
  then_within (stopped k) f h g = tt
  then_within (went k) f h g = g k h

  play_within : (todo : List Action) (k : Stock) → Within k → Ended (play cuts windows limit flags todo k)
  unfolding play
  play_within [] k h = h
  play_within (a ∷ rest) k h = then_within (act cuts windows limit flags a k) (play cuts windows limit flags rest) (act_within a k h) (play_within rest)

  module _ (mesh : EdgeData) (c : Candidate) (s : State) (h : Within s.stock) where
    abbrev StateWithin : State → Type 0
    StateWithin t = Within t.stock

    finish_within : (wins : List WindowRecord) (live : ℕ → List Window) (o : Outcome) → Ended o → EndsIn StateWithin (finish wins live o)
    unfolding finish
    finish_within wins live (stopped n) k = tt
    finish_within wins live (went t) k = k

    admit_within : EndsIn StateWithin (admit_of cuts windows limit flags mesh c s)
    unfolding admit_of
    admit_within =
        let e = c.edge in
        let todo = adding (edge_in mesh e) (as_window c) (s.live e) s.stock.made in
        finish_within (wins_after todo s.wins) (put e (add_to better_of (tiny_of (mesh.len e)) (as_window c) (s.live e) s.stock.made).live s.live) (play cuts windows limit flags todo s.stock) (play_within todo s.stock h)

    pub stock_add : EndsIn StateWithin (add_of cuts windows limit flags mesh c s)
    unfolding add_of
    stock_add = by_cases (λ (b : Bool). EndsIn StateWithin (cond b (admit_of cuts windows limit flags mesh c s) (state.went s))) (admits limit mesh.len c) (λ y. admit_within) (λ n. h)

-- ---- a pop
abbrev Popping : Popped × Queue → Type 0
Popping (None, q) = Unit {0}
Popping (Some (x, k), q) = k ≤ slots q

pop_within : (q : Queue) (m : ℕ) → Popping (popping q m)
pop_within q m = go (ltb 0 m) (leb m (slots q)) refl where
  go : (a b : Bool) → leb m (slots q) ≡ b → Popping (cond {A = Popped × Queue} (a && b) (Some (at q 0, m - 1), popped q (m - 1)) (None, q))
  go true true y = omega (arith, leb-true m (slots q) y, pop_slots q (m - 1))
  go true false y = tt
  go false b y = tt

popped_within : (s : State) → s.stock.queued ≤ slots s.stock.queue → (p : Popped × Queue) → Popping p → (after_pop s p).stock.queued ≤ slots (after_pop s p).stock.queue
unfolding after_pop
popped_within s h (None, q) k = h
popped_within s h (Some (x, n), q) k = k

pub stock_pop : (s : State) → s.stock.queued ≤ slots s.stock.queue → let p = popping s.stock.queue s.stock.queued in (after_pop s p).stock.queued ≤ slots (after_pop s p).stock.queue
stock_pop s h = popped_within s h (popping s.stock.queue s.stock.queued) (pop_within s.stock.queue s.stock.queued)
