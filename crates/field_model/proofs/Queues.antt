-- The heap and any queue, event by event: both hold the events of one list in order, a push and a pop keep that, and a pop takes the same event from both. Assumes nothing.
use Prim.Native.Nat.{ℕ, zero, suc, ◌+◌, ◌-◌, ◌<◌, ◌≤◌}
use mathlib.Core.List.{List, [], ◌∷◌}
use mathlib.Core.Path.{◌≡◌, refl, sym, ap, subst, ◌∙◌}
use native.Mathlib.Omega.{arith}
use native.Mathlib.Numerals.{add-one}
use borrow.Author.Tests.{lt-ltb, le-leb}
use lib.ListN.{length}
use Rattle.nat_laws.specs.Lists.{All}
use Rattle.heap.specs.declared.Event.{Event}
use Rattle.std.specs.Prelude.{None, Some}
use Rattle.heap.specs.Order.{order}
use Rattle.heap.specs.Queue.{Queue, at, HasSlots, pushed, popped, slots, popping, Popped}
use Rattle.heap.specs.Model.{WellFormed, insert_event, sum, weight_of, SameEvents, TakenFrom, nothing, event, TakesLeast, none, one}
use Rattle.heap.proofs.SameAnswers.{order_same, sum_insert, mark, mark_own, found_list, Holds, empty_holds, push_holds, pop_holds, push_slots, pop_slots, has_slots}

-- a heap of n events in q and a queue of the events c hold the same, in so many slots
pub record SameQueue (cap : ℕ) (c : List Event) (n : ℕ) (q : Queue) : Type 1 where
  pub ordered : List Event
  pub holds : Holds n q ordered
  pub sums : (w : Event → ℕ) → sum w c ≡ sum w ordered
  pub proper : All WellFormed c
  pub room : slots q ≡ cap
  pub within : n ≤ cap

pub none_same : (q : Queue) → SameQueue (slots q) [] 0 q
none_same q = record { ordered = []; holds = empty_holds q; sums = λ w. refl; proper = tt; room = refl; within = omega arith }

-- ---- how many
one_each : (l : List Event) → sum (λ (e : Event). 1) l ≡ length l
unfolding sum
one_each [] = refl
one_each (x ∷ l) = omega (arith, one_each l)

one_slot : (n : ℕ) (q : Queue) → weight_of (λ (e : Event). 1) n q ≡ n
unfolding weight_of
one_slot zero q = refl
one_slot (suc n) q = omega (arith, one_slot n q)

pub count_same : (cap : ℕ) (c : List Event) (n : ℕ) (q : Queue) → SameQueue cap c n q → length c ≡ n
count_same cap c n q s = sym (one_each c) ∙ s.sums (λ (e : Event). 1) ∙ sym (s.holds.same (λ (e : Event). 1)) ∙ one_slot n q

-- ---- a push
pub push_same : (cap : ℕ) (c d : List Event) (n : ℕ) (q : Queue) (e : Event) → n < cap → WellFormed e → SameEvents (e ∷ c) d → SameQueue cap c n q → SameQueue cap d (n + 1) (pushed q n e)
unfolding sum
push_same cap c d n q e l p t s =
    let there : HasSlots (n + 1) q = has_slots (n + 1) q (omega (arith, l, s.room)) in
    record {
      ordered = insert_event e s.ordered;
      holds = push_holds n q s.ordered e there p s.holds;
      sums = λ w. sym (t.sums w) ∙ ap (λ (k : ℕ). k + w e) (s.sums w) ∙ sym (sum_insert w e s.ordered);
      proper = t.each WellFormed (p, s.proper);
      room = push_slots q n e ∙ s.room;
      within = omega (arith, l);
    }

-- ---- a pop
-- both answer that there is nothing, or both the same event, and hold the same then
pub data SamePop {S : Type 0} (events : S → List Event) (cap : ℕ) : TakenFrom S → Popped × Queue → Type 1 where
  no_event : (q : Queue) → SamePop events cap nothing (None, q)
  one_event : (x : Event) (t : S) (k : ℕ) (q : Queue) → SameQueue cap (events t) k q → SamePop events cap (event x t) (Some (x, k), q)

-- x is least in c, which has the events of y and l, y the least of these: they are one
first_is : (c d : List Event) (x y : Event) (l : List Event) → All (λ (z : Event). order x ≤ order z) c → SameEvents c (x ∷ d) → All WellFormed c → ((w : Event → ℕ) → sum w c ≡ sum w (y ∷ l))
    → All (λ (z : Event). order y ≤ order z) l → WellFormed y → x ≡ y
unfolding sum
first_is c d x y l least t p sums sorted q =
    let a : order x ≤ order y = found_list (order y) (order x) c (rw (sums (mark (order y)), mark_own y) (omega arith)) least in
    let b : order y ≤ order x = found_list (order x) (order y) (y ∷ l) (rw (← sums (mark (order x)), t.sums (mark (order x)), mark_own x) (omega arith)) (omega arith, sorted) in
    order_same x y (t.each WellFormed p).0 q (omega arith)

-- nothing in the one is nothing in the other
none_listed : (cap : ℕ) (c d : List Event) (x : Event) (q : Queue) → SameEvents c (x ∷ d) → SameQueue cap c 0 q → ⊥
unfolding sum weight_of
none_listed cap c d x q t s = omega (arith, t.sums (λ (e : Event). 1), s.sums (λ (e : Event). 1), s.holds.same (λ (e : Event). 1))

none_heaped : (cap n : ℕ) (q : Queue) → SameQueue cap [] (suc n) q → ⊥
none_heaped cap n q s = omega (arith, count_same cap [] (suc n) q s)

-- what a pop of suc n events answers
pop_is : (cap : ℕ) (c : List Event) (n : ℕ) (q : Queue) → SameQueue cap c (suc n) q → popping q (suc n) ≡ (Some (at q 0, n), popped q n)
pop_is cap c n q s =
    let e : suc n - 1 ≡ n = omega arith in
    rw (lt-ltb 0 (suc n) (omega arith), le-leb (suc n) (slots q) (omega (arith, s.within, s.room)), e) refl

module _ {S : Type 0} (events : S → List Event) (cap : ℕ) (s : S) where
  -- the heap's list is not empty, and its first is the event that was taken
  rest_same : (n : ℕ) (q : Queue) (x : Event) (t : S) → All (λ (z : Event). order x ≤ order z) (events s) → SameEvents (events s) (x ∷ events t) → (h : SameQueue cap (events s) (suc n) q)
      → (l : List Event) → h.ordered ≡ l → SamePop events cap (event x t) (Some (at q 0, n), popped q n)
  unfolding sum
  rest_same n q x t least same h [] is = absurd (omega (arith, same.sums (λ (e : Event). 1), h.sums (λ (e : Event). 1), ap (sum (λ (e : Event). 1)) is))
  rest_same n q x t least same h (y ∷ l) is =
      let k : Holds (n + 1) q (y ∷ l) = subst (λ (m : ℕ). Holds m q (y ∷ l)) (sym (add-one n)) (subst (Holds (suc n) q) is h.holds) in
      let sums : (w : Event → ℕ) → sum w (events s) ≡ sum w (y ∷ l) = λ w. h.sums w ∙ ap (sum w) is in
      let first : x ≡ y = first_is (events s) (events t) x y l least same h.proper sums k.sorted.0 k.listed.0 in
      let p = pop_holds n q y l (has_slots (n + 1) q (omega (arith, h.within, h.room))) k in
      subst (λ (z : Event). SamePop events cap (event x t) (Some (z, n), popped q n)) (first ∙ sym p.0)
      (one_event x t n (popped q n) (record {
        ordered = l;
        holds = p.1;
        sums = λ w. omega (arith, sums w, same.sums w, ap w first);
        proper = (same.each WellFormed h.proper).1;
        room = pop_slots q n ∙ h.room;
        within = omega (arith, h.within);
      }))

  pub pop_same : (n : ℕ) (q : Queue) (t : TakenFrom S) → TakesLeast events s t → SameQueue cap (events s) n q → SamePop events cap t (popping q n)
  pop_same zero q nothing (none e) h = no_event q
  pop_same zero q (event x t) (one _ _ least same) h = absurd (none_listed cap (events s) (events t) x q same h)
  pop_same (suc n) q nothing (none e) h = absurd (none_heaped cap n q (subst (λ (c : List Event). SameQueue cap c (suc n) q) e h))
  pop_same (suc n) q (event x t) (one _ _ least same) h =
      subst (SamePop events cap (event x t)) (sym (pop_is cap (events s) n q h)) (rest_same n q x t least same h h.ordered refl)
