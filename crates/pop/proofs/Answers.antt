-- What a pop's answer says of the queue, and that a pop clears flags alone. Assumes nothing.
--     taken_none, taken_one (the answer tells the event), empty_queue (an empty answer changes no queue), live_claimed_lem
use Prim.Native.Nat.{ℕ, ◌-◌}
use mathlib.Core.Bool.{Bool, true, false, cond, ◌&&◌}
use mathlib.Core.List.{List, [], ◌∷◌, map}
use mathlib.Core.Path.{◌≡◌, refl, sym, ap, subst}
use lib.Dec.{leb, ltb, eqb}
use Rattle.heap.specs.declared.Event.{Event}
use Rattle.heap.specs.declared.Item.{Item}
use Rattle.heap.specs.declared.Item.TheVariants.{Window as Item-as-Window, Vertex as Item-as-Vertex}
use Rattle.std.specs.Prelude.{Option, None, Some}
use Rattle.heap.specs.Queue.{Queue, at, slots, popping, Popped}
use Rattle.heap.specs.Queue.{popped as Queue·popped}
use Rattle.trim_model.specs.Windows.{Window, unqueued}
use Rattle.trim_model.proofs.Ranks.{by_cases}
use Rattle.live_windows.specs.Live.{unqueued_in}
use Rattle.pop.specs.declared.Taken.{Taken}
use Rattle.pop.specs.Words.{item_pending, taken_of}
use Rattle.pop.specs.State.{live_claimed}

-- ---- the event
NoneTaken : Option Taken → Type 0
NoneTaken None = Unit {0}
NoneTaken (Some t) = ⊥

taken_or : Taken → Option Taken → Taken
taken_or d None = d
taken_or d (Some t) = t

module _ (made : ℕ) (words : List ℕ) where
  pub taken_none : (p : Popped) → None ≡ taken_of made words p → p ≡ None
  unfolding taken_of NoneTaken
  taken_none None h = refl
  taken_none (Some (x, n)) h = absurd (subst NoneTaken h tt)

  pub taken_one : (p : Popped) (t : Taken) → Some t ≡ taken_of made words p → (p ≡ Some (t.event, t.queued)) × (t.pending ≡ item_pending made words t.event.item)
  unfolding taken_of NoneTaken taken_or
  taken_one None t h = absurd (subst NoneTaken (sym h) tt)
  taken_one (Some (y, m)) t h =
      let same : record { event = y; queued = m; pending = item_pending made words y.item } ≡ t = sym (ap (taken_or t) h) in
      (ap (λ (z : Taken). Some (z.event, z.queued)) same, subst (λ (z : Taken). z.pending ≡ item_pending made words z.event.item) same refl)

-- ---- the queue
IsEmpty : Popped → Type 0
IsEmpty None = Unit {0}
IsEmpty (Some (x, n)) = ⊥

empty_same : (b : Bool) (x : Event) (n : ℕ) (p q : Queue) → (cond {A = Popped × Queue} b (Some (x, n), p) (None, q)).0 ≡ None → (cond {A = Popped × Queue} b (Some (x, n), p) (None, q)).1 ≡ q
unfolding IsEmpty
empty_same true x n p q h = absurd (subst IsEmpty (sym h) tt)
empty_same false x n p q h = refl

pub empty_queue : (q : Queue) (n : ℕ) → (popping q n).0 ≡ None → (popping q n).1 ≡ q
empty_queue q n = empty_same (ltb 0 n && leb n (slots q)) (at q 0) (n - 1) (Queue·popped q (n - 1)) q

-- ---- the live windows: but for the flags that it clears they are those that they were
unqueued_in_lem : (n : ℕ) (us : List Window) → map unqueued (unqueued_in n us) ≡ map unqueued us
unfolding unqueued_in
unqueued_in_lem n [] = refl
unqueued_in_lem n (u ∷ us) = by_cases (λ (b : Bool). unqueued (cond b (unqueued u) u) ∷ map unqueued (unqueued_in n us) ≡ unqueued u ∷ map unqueued us) (eqb u.num n) (λ y. ap (λ (l : List Window). unqueued u ∷ l) (unqueued_in_lem n us)) (λ z. ap (λ (l : List Window). unqueued u ∷ l) (unqueued_in_lem n us))

pub live_claimed_lem : (i : Item) (us : List Window) → map unqueued (live_claimed i us) ≡ map unqueued us
unfolding live_claimed
live_claimed_lem (Item-as-Window w) us = unqueued_in_lem w.0 us
live_claimed_lem (Item-as-Vertex v) us = refl
