-- Additions and pops keep every event of a vertex one of the mesh's: events_none, events_add, events_all, events_pop; popped_there (the event that is popped is such). Assumes nothing.
use Prim.Native.Nat.{ℕ, suc, ◌+◌, ◌*◌, ◌-◌, ◌<◌}
use native.Mathlib.Omega.{arith}
use mathlib.Core.Bool.{Bool, true, false, cond, ◌&&◌}
use mathlib.Core.List.{List, [], ◌∷◌}
use mathlib.Core.Path.{◌≡◌, refl, sym, ap, subst, ◌∙◌}
use borrow.Author.Tests.{lt-ltb, ltb-true, leb-true}
use lib.Dec.{eqb, leb, ltb}
use lib.ListN.{get_or}
use lib.Ieee.{Float, lt, le}
use Rattle.heap.specs.declared.Event.{Event}
use Rattle.heap.specs.declared.Item.{Item}
use Rattle.heap.specs.declared.Item.TheVariants.{Window as Item-as-Window, Vertex as Item-as-Vertex}
use Rattle.std.specs.Prelude.{Err, Ok}
use Rattle.buffers.specs.declared.Lack.TheVariants.{Events}
use Rattle.std.specs.Prelude.{None, Some}
use Rattle.heap.specs.Queue.{Queue, at, slots, pushed, popped, pushing, popping, Popped}
use Rattle.heap.specs.Model.{weight_of}
use Rattle.heap.proofs.HeapOrder.{pop_weight}
use Rattle.heap.proofs.SameAnswers.{has_slots, push_adds}
use Rattle.pop.specs.of_better.Claim.{All}
use Rattle.pop.specs.of_better.Stretches.{better_of}
use Rattle.actions.specs.Actions as actions
use Rattle.actions.specs.Actions.{Action, list, make, trim, kill, push, touch, Stock, stock, Outcome, distance_of, with_distance, queueing, and_then, act, play, wins_after}
use Rattle.windows.specs.declared.WindowRecord.{WindowRecord}
use Rattle.pop.specs.of_trim_model.Intervals.{tiny_of}
use Rattle.pop.specs.of_trim_model.Windows.{Window}
use Rattle.pop.specs.of_trim_model.Add.{add_to}
use Rattle.pop.specs.of_trim_model.Model.{Candidate, as_window, admits}
use Rattle.pop.proofs.laws_of_trim_model.Ranks.{by_cases}
use Rattle.pop.specs.of_trim_state.Trace.{adding}
use Rattle.pop.specs.of_trim_state.State as state
use Rattle.pop.specs.of_trim_state.State.{State, Result, EdgeData, edge_in, put, finish, admit_of, add_of}
use Rattle.pop.proofs.laws_of_trim_state.Made.{After}
use Rattle.pop.specs.State.{after_pop}
use Rattle.spread_offers.specs.of_offers.Offers.{and_next, add_all}
use Rattle.windows_there.specs.There.{LiveThere, EndsThere, ItemThere, past_item, past_vertex, EventsThere}
use Rattle.windows_there.proofs.Added.{MakesThere, adding_there}

module _ (n : ℕ) where
  abbrev Below : ℕ → Type 0
  Below k = k < n

  abbrev weight : ℕ → Queue → ℕ
  weight = weight_of (past_vertex n)

  item_none : (x : Item) → ItemThere Below x → past_item n x ≡ 0
  unfolding past_item
  item_none (Item-as-Window id) h = refl
  item_none (Item-as-Vertex k) h = ap (λ (b : Bool). cond b 0 1) (lt-ltb k.0 n h)

  none_item : (x : Item) → past_item n x ≡ 0 → ItemThere Below x
  unfolding past_item
  none_item (Item-as-Window id) h = tt
  none_item (Item-as-Vertex k) h = go (ltb k.0 n) refl h where
    go : (b : Bool) → ltb k.0 n ≡ b → cond {A = ℕ} b 0 1 ≡ 0 → k.0 < n
    go true l z = ltb-true k.0 n l
    go false l z = absurd (let w : ⊥ = omega (arith, z) in w)

  any : (e : ℕ) (us : List Window) → All (LiveThere (λ f g. Unit {0}) e) us
  any e [] = tt
  any e (u ∷ us) = (tt, any e us)

  -- no event is queued
  pub events_none : (s : State) → s.stock.queued ≡ 0 → EventsThere n s
  unfolding weight_of
  events_none s h = ap (λ (k : ℕ). weight k s.stock.queue) h

  -- ---- actions
  abbrev Quiet : Outcome → Type 0
  Quiet (actions.stopped k) = Unit {0}
  Quiet (actions.went k) = weight k.queued k.queue ≡ 0

  -- one that makes what it likes, and pushes and touches what is there
  abbrev Fine : Action → Type 0
  Fine = MakesThere (λ e g. Unit {0}) Below

  push_quiet : (made : ℕ) (vertex : List Float) (q : Queue) (m : ℕ) (e : Event) → ItemThere Below e.item → weight m q ≡ 0 → Quiet (queueing made vertex (pushing q m e))
  unfolding queueing
  push_quiet made vertex q m e t h = go (ltb m (slots q)) refl where
    go : (b : Bool) → ltb m (slots q) ≡ b → Quiet (queueing made vertex (cond b (Ok (m + 1), pushed q m e) (Err Events, q)))
    go true l = let z = push_adds m q e (past_vertex n) (ltb-true m (slots q) l) in omega (arith, z, h, item_none e.item t)
    go false l = tt

  module _ (cuts windows : ℕ) (limit : Float) (flags : List ℕ) where
    act_quiet : (a : Action) → Fine a → (k : Stock) → weight k.queued k.queue ≡ 0 → Quiet (act cuts windows limit flags a k)
    unfolding act
    act_quiet (list m) f k h = by_cases (λ (b : Bool). Quiet (cond b (actions.went k) (actions.stopped 14))) (leb m cuts) (λ y. h) (λ y. tt)
    act_quiet (make x) f k h = by_cases (λ (b : Bool). Quiet (cond b (actions.went (stock (suc k.made) k.queued k.queue k.vertex)) (actions.stopped 12))) (ltb k.made windows) (λ y. h) (λ y. tt)
    act_quiet (trim i b0 b1 low) f k h = h
    act_quiet (kill i) f k h = h
    act_quiet (push e) f k h = push_quiet k.made k.vertex k.queue k.queued e f h
    act_quiet (touch v d) f k h =
        let vertex = with_distance k.vertex v d in
        let q = queueing k.made vertex (pushing k.queue k.queued (record { key = d; item = Item-as-Vertex (record { 0 = v }) })) in
        let r = actions.went (stock k.made k.queued k.queue vertex) in
        by_cases (λ (b : Bool). Quiet (cond b (cond (eqb (get_or flags (3 * v + 2) 0) 1 && le d limit) q r) (actions.went k))) (lt d (distance_of k.vertex v))
        (λ y. by_cases (λ (b : Bool). Quiet (cond b q r)) (eqb (get_or flags (3 * v + 2) 0) 1 && le d limit) (λ z. push_quiet k.made vertex k.queue k.queued (record { key = d; item = Item-as-Vertex (record { 0 = v }) }) f h) (λ z. h))
        (λ y. h)

    then_quiet : (o : Outcome) (f : Stock → Outcome) → Quiet o → ((k : Stock) → weight k.queued k.queue ≡ 0 → Quiet (f k)) → Quiet (and_then o f)
    unfolding and_then
    then_quiet (actions.stopped k) f h g = tt
    then_quiet (actions.went k) f h g = g k h

    play_quiet : (todo : List Action) → All Fine todo → (k : Stock) → weight k.queued k.queue ≡ 0 → Quiet (play cuts windows limit flags todo k)
    unfolding play
    play_quiet [] f k h = h
    play_quiet (a ∷ rest) f k h = then_quiet (act cuts windows limit flags a k) (play cuts windows limit flags rest) (act_quiet a f.0 k h) (play_quiet rest f.1)

    -- ---- additions
    module _ (mesh : EdgeData) where
      abbrev Then : Result → Type 0
      Then = After cuts windows limit flags (EventsThere n)

      abbrev Ends : Candidate → Type 0
      Ends = EndsThere n mesh

      finish_quiet : (wins : List WindowRecord) (live : ℕ → List Window) (o : Outcome) → Quiet o → Then (finish wins live o)
      unfolding finish
      finish_quiet wins live (actions.stopped k) h = tt
      finish_quiet wins live (actions.went k) h = h

      admit_quiet : (c : Candidate) → Ends c → (s : State) → EventsThere n s → Then (admit_of cuts windows limit flags mesh c s)
      unfolding admit_of
      admit_quiet c ends s h =
          let e = c.edge in
          let todo = adding (edge_in mesh e) (as_window c) (s.live e) s.stock.made in
          finish_quiet (wins_after todo s.wins) (put e (add_to better_of (tiny_of (mesh.len e)) (as_window c) (s.live e) s.stock.made).live s.live) (play cuts windows limit flags todo s.stock)
          (play_quiet todo (adding_there (λ f g. Unit {0}) Below (edge_in mesh e) ends.0 ends.1 (as_window c) tt (s.live e) s.stock.made (any e (s.live e))) s.stock h)

      add_quiet : (c : Candidate) → Ends c → (s : State) → EventsThere n s → Then (add_of cuts windows limit flags mesh c s)
      unfolding add_of
      add_quiet c ends s h = by_cases (λ (b : Bool). Then (cond b (admit_of cuts windows limit flags mesh c s) (state.went s))) (admits limit mesh.len c) (λ y. admit_quiet c ends s h) (λ y. h)

      -- one that goes through
      pub events_add : (c : Candidate) → Ends c → (s : State) → EventsThere n s → (t : State) → add_of cuts windows limit flags mesh c s ≡ state.went t → EventsThere n t
      events_add c ends s h t is = subst Then is (add_quiet c ends s h)

      next_quiet : (r : Result) (f : State → Result) → Then r → ((t : State) → EventsThere n t → Then (f t)) → Then (and_next r f)
      unfolding and_next
      next_quiet (state.stopped k) f h g = tt
      next_quiet (state.went t) f h g = g t h

      all_quiet : (cs : List Candidate) → All Ends cs → (s : State) → EventsThere n s → Then (add_all cuts windows limit flags mesh cs s)
      unfolding add_all
      all_quiet [] a s h = h
      all_quiet (c ∷ cs) a s h = next_quiet (add_of cuts windows limit flags mesh c s) (add_all cuts windows limit flags mesh cs) (add_quiet c a.0 s h) (all_quiet cs a.1)

      -- one after the other
      pub events_all : (cs : List Candidate) → All Ends cs → (s : State) → EventsThere n s → (t : State) → add_all cuts windows limit flags mesh cs s ≡ state.went t → EventsThere n t
      events_all cs a s h t is = subst Then is (all_quiet cs a s h)

  -- ---- a pop
  abbrev Popping : Popped × Queue → Type 0
  Popping (None, q) = Unit {0}
  Popping (Some (x, k), q) = ItemThere Below x.item × (weight k q ≡ 0)

  pop_quiet : (q : Queue) (m : ℕ) → weight m q ≡ 0 → Popping (popping q m)
  pop_quiet q m h = go (ltb 0 m) refl (leb m (slots q)) refl where
    go : (a : Bool) → ltb 0 m ≡ a → (b : Bool) → leb m (slots q) ≡ b → Popping (cond {A = Popped × Queue} (a && b) (Some (at q 0, m - 1), popped q (m - 1)) (None, q))
    go true x true y =
        let l = ltb-true 0 m x in
        let z : (m - 1) + 1 ≡ m = omega (arith, l) in
        let w = pop_weight (past_vertex n) (m - 1) q (has_slots ((m - 1) + 1) q (omega (arith, l, leb-true m (slots q) y))) in
        let t : weight ((m - 1) + 1) q ≡ 0 = ap (λ (k : ℕ). weight k q) z ∙ h in
        (none_item (at q 0).item (omega (arith, w, t)), omega (arith, w, t))
    go true x false y = tt
    go false x b y = tt

  pub events_pop : (s : State) → EventsThere n s → (p : Popped × Queue) → p ≡ popping s.stock.queue s.stock.queued → EventsThere n (after_pop s p)
  unfolding after_pop
  events_pop s h (None, q) is = h
  events_pop s h (Some (x, k), q) is = (subst Popping (sym is) (pop_quiet s.stock.queue s.stock.queued h)).1

  -- the event that it takes out
  pub popped_there : (s : State) → EventsThere n s → (x : Event) (k : ℕ) (q : Queue) → (Some (x, k), q) ≡ popping s.stock.queue s.stock.queued → ItemThere Below x.item
  popped_there s h x k q is = (subst Popping (sym is) (pop_quiet s.stock.queue s.stock.queued h)).0
