-- The definitions of the replay, for each way that the code can go.
use Prim.Native.Nat.{ℕ, zero, suc, ◌+◌, ◌*◌, ◌-◌, ◌<◌, ◌≤◌}
use native.Mathlib.Omega.{arith}
use mathlib.Core.Bool.{Bool, true, false, not, cond}
use mathlib.Core.List.{List}
use mathlib.Core.Logic.{◌≢◌}
use mathlib.Core.Path.{◌≡◌, refl, sym, ap, ◌∙◌}
use borrow.Author.Tests.{eq-eqb, ne_eqb, lt-ltb, le-ltb}
use lib.Dec.{eqb, ltb}
use lib.Ieee.{binary64, to_bits}
use Rattle.vectors.specs.Records.{word_at}
use Rattle.heap.specs.declared.Event.{Event}
use Rattle.std.specs.Prelude.{Err, Ok}
use Rattle.buffers.specs.declared.Lack.{Lack}
use Rattle.std.specs.Prelude.{None, Some}
use Rattle.heap.specs.Order.{item_number, kind_of}
use Rattle.heap.specs.Queue.{Queue, pushing, popping, Pushed, Popped}
use Rattle.heap_vectors.specs.Replay.{event_at, same_event, ReplayOutcome, replay_push, pop_differs, replay_pop, replay_record, replay_records}

module _ (a b : Event) {p q : ℕ} (d : p ≡ to_bits binary64 a.key) (e : q ≡ to_bits binary64 b.key) where
  pub other_key : p ≢ q → false ≡ same_event a b
  other_key h = rw (ne_eqb (to_bits binary64 a.key) (to_bits binary64 b.key) (λ z. h (d ∙ z ∙ sym e))) refl

  module _ (h : p ≡ q) {m n : ℕ} (x : m ≡ item_number a.item) (y : n ≡ item_number b.item) where
    pub other_number : m ≢ n → false ≡ same_event a b
    other_number k = rw (eq-eqb (to_bits binary64 a.key) (to_bits binary64 b.key) (sym d ∙ h ∙ e), ne_eqb (item_number a.item) (item_number b.item) (λ z. k (x ∙ z ∙ sym y))) refl

    module _ (k : m ≡ n) {s t : ℕ} (f : s ≡ kind_of a.item) (g : t ≡ kind_of b.item) where
      abbrev number : item_number a.item ≡ item_number b.item
      number = sym x ∙ k ∙ y

      pub other_kind : s ≢ t → false ≡ same_event a b
      other_kind l = rw (eq-eqb (to_bits binary64 a.key) (to_bits binary64 b.key) (sym d ∙ h ∙ e), eq-eqb (item_number a.item) (item_number b.item) number, ne_eqb (kind_of a.item) (kind_of b.item) (λ z. l (f ∙ z ∙ sym g))) refl

      pub one_event : s ≡ t → true ≡ same_event a b
      one_event l = rw (eq-eqb (to_bits binary64 a.key) (to_bits binary64 b.key) (sym d ∙ h ∙ e), eq-eqb (item_number a.item) (item_number b.item) number, eq-eqb (kind_of a.item) (kind_of b.item) (sym f ∙ l ∙ g)) refl

module _ (found : Bool) (n : ℕ) {q : Queue} {a : Pushed × Queue} {r : Pushed} (e : (r, q) ≡ a) where
  pub push_full : {l : Lack} {d : ℕ} → r ≡ Err l → d ≡ cond found 1 0 → (n, (d, q)) ≡ replay_push found n a
  unfolding replay_push
  push_full h k = (λ t. (n, (k t, q))) ∙ (λ t. replay_push found n (sym h t, q)) ∙ ap (replay_push found n) e

  pub push_queued : {m d : ℕ} → r ≡ Ok m → d ≡ cond (not found) 1 0 → (m, (d, q)) ≡ replay_push found n a
  unfolding replay_push
  push_queued {m} h k = (λ t. (m, (k t, q))) ∙ (λ t. replay_push found n (sym h t, q)) ∙ ap (replay_push found n) e

module _ (found : Bool) (e : Event) (n : ℕ) {q : Queue} {a : Popped × Queue} {r : Popped} (i : (r, q) ≡ a) where
  pub pop_empty : {d : ℕ} → r ≡ None → d ≡ cond found 1 0 → (n, (d, q)) ≡ replay_pop found e n a
  unfolding replay_pop
  pop_empty h k = (λ t. (n, (k t, q))) ∙ (λ t. replay_pop found e n (sym h t, q)) ∙ ap (replay_pop found e n) i

  pub pop_first : {x : Event} {m d : ℕ} → r ≡ Some (x, m) → d ≡ pop_differs found x e → (m, (d, q)) ≡ replay_pop found e n a
  unfolding replay_pop
  pop_first {x} {m} h k = (λ t. (m, (k t, q))) ∙ (λ t. replay_pop found e n (sym h t, q)) ∙ ap (replay_pop found e n) i

-- an operation differs or not
push_le : (found : Bool) (n : ℕ) (a : Pushed × Queue) → (replay_push found n a).1.0 ≤ 1
unfolding replay_push
push_le true n (Err l, q) = omega arith
push_le false n (Err l, q) = omega arith
push_le true n (Ok m, q) = omega arith
push_le false n (Ok m, q) = omega arith

differs_le : (found same : Bool) → cond found (cond (not same) 1 0) 1 ≤ 1
differs_le true true = omega arith
differs_le true false = omega arith
differs_le false same = omega arith

pop_le : (found : Bool) (e : Event) (n : ℕ) (a : Popped × Queue) → (replay_pop found e n a).1.0 ≤ 1
unfolding replay_pop pop_differs
pop_le true e n (None, q) = omega arith
pop_le false e n (None, q) = omega arith
pop_le found e n (Some (x, m), q) = differs_le found (same_event x e)

module _ (s : List ℕ) (k n : ℕ) (q : Queue) where
  record_le : (replay_record s k n q).1.0 ≤ 1
  unfolding replay_record
  record_le = go (ltb (word_at s (4 * k)) 2) where
    go : (t : Bool) → (cond {A = ReplayOutcome} t (replay_push (eqb (word_at s (4 * k)) 0) n (pushing q n (event_at s k))) (replay_pop (eqb (word_at s (4 * k)) 2) (event_at s k) n (popping q n))).1.0 ≤ 1
    go true = push_le (eqb (word_at s (4 * k)) 0) n (pushing q n (event_at s k))
    go false = pop_le (eqb (word_at s (4 * k)) 2) (event_at s k) n (popping q n)

  pub answer_le : {n' d' : ℕ} {q' : Queue} → (n', (d', q')) ≡ replay_record s k n q → d' ≤ 1
  answer_le {n'} {d'} e = let z : d' ≡ (replay_record s k n q).1.0 = λ t. (e t).1.0 in rw z record_le

  pub record_push : {w : ℕ} {e : Event} {o : ReplayOutcome} → w ≡ word_at s (4 * k) → e ≡ event_at s k → w < 2 → o ≡ replay_push (eqb w 0) n (pushing q n e) → o ≡ replay_record s k n q
  unfolding replay_record
  record_push x y h z = z ∙ rw (y, x, lt-ltb (word_at s (4 * k)) 2 (rw (← x) h)) refl

  pub record_pop : {w : ℕ} {e : Event} {o : ReplayOutcome} → w ≡ word_at s (4 * k) → e ≡ event_at s k → 2 ≤ w → o ≡ replay_pop (eqb w 2) e n (popping q n) → o ≡ replay_record s k n q
  unfolding replay_record
  record_pop x y h z = z ∙ rw (y, x, le-ltb (word_at s (4 * k)) 2 (rw (← x) h)) refl

-- the records, turn by turn
module _ (s : List ℕ) (k n d : ℕ) (q : Queue) where
  pub records_more : (m : ℕ) {n' d' : ℕ} {q' : Queue} → 0 < m → (n', (d', q')) ≡ replay_record s k n q → replay_records m s k n d q ≡ replay_records (m - 1) s (k + 1) n' (d + d') q'
  unfolding replay_records
  records_more zero h e = absurd (omega arith)
  records_more (suc m) h e = let i : suc m - 1 ≡ m = omega arith in rw i (λ t. replay_records m s (k + 1) (sym e t).0 (d + (sym e t).1.0) (sym e t).1.1)

  pub records_end : (m : ℕ) → m ≡ 0 → (n, (d, q)) ≡ replay_records m s k n d q
  unfolding replay_records
  records_end m h = rw h refl

pub records_start : (m : ℕ) (s : List ℕ) (n : ℕ) (q : Queue) → replay_records m s 0 n 0 q ≡ replay_records (m - 0) s 0 n 0 q
records_start m s n q = let e : m - 0 ≡ m = omega arith in rw e refl
