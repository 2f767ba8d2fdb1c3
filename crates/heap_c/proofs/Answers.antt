-- What the answers of push and pop become.
use Prim.Native.Nat.{ℕ, ◌+◌, ◌-◌, ◌≤◌}
use mathlib.Core.Bool.{Bool, true, false, cond, ◌&&◌}
use mathlib.Core.Path.{◌≡◌, refl, sym, ap, ◌∙◌}
use native.Mathlib.Omega.{arith}
use borrow.Author.Tests.{ltb-true, leb-true}
use lib.Dec.{ltb, leb}
use lib.Ieee.{Float}
use Rattle.heap.specs.declared.Event.{Event}
use Rattle.heap.specs.declared.Item.{Item}
use Rattle.std.specs.Prelude.{Err, Ok}
use Rattle.buffers.specs.declared.Lack.{Lack}
use Rattle.std.specs.Prelude.{None, Some}
use Rattle.heap.specs.Queue.{Queue, at, store_at, popped, slots, pushing, popping, Pushed, Popped}
use Rattle.heap_c.specs.Exports.{push_answer, pop_answer}

-- the event that is pushed, made of its words
pub of_words : (q : Queue) (n : ℕ) (k : Float) {x y : Item} → x ≡ y → {o : Pushed × Queue} → o ≡ pushing q n (record { key = k; item = x }) → o ≡ pushing q n (record { key = k; item = y })
of_words q n k h e = e ∙ (λ t. pushing q n (record { key = k; item = h t }))

module _ (n : ℕ) {q : Queue} {a : Pushed × Queue} {r : Pushed} (e : (r, q) ≡ a) where
  pub push_full : {l : Lack} → r ≡ Err l → (n, q) ≡ push_answer n a
  unfolding push_answer
  push_full h = (λ t. push_answer n (sym h t, q)) ∙ ap (push_answer n) e

  pub push_queued : {m : ℕ} → r ≡ Ok m → (m, q) ≡ push_answer n a
  unfolding push_answer
  push_queued h = (λ t. push_answer n (sym h t, q)) ∙ ap (push_answer n) e

module _ (n : ℕ) {q : Queue} {a : Popped × Queue} {r : Popped} (e : (r, q) ≡ a) where
  pub pop_empty : r ≡ None → (n, q) ≡ pop_answer n a
  unfolding pop_answer
  pop_empty h = (λ t. pop_answer n (sym h t, q)) ∙ ap (pop_answer n) e

  pub pop_first : {x : Event} {m : ℕ} {p : Queue} → r ≡ Some (x, m) → p ≡ store_at q m x → (m, p) ≡ pop_answer n a
  unfolding pop_answer
  pop_first {x} {m} h k = (λ t. (m, k t)) ∙ (λ t. pop_answer n (sym h t, q)) ∙ ap (pop_answer n) e

not_both : {r : Popped} {x : Event} {m : ℕ} → r ≡ None → r ≡ Some (x, m) → ⊥
not_both h k = let z : ◌≡◌ {A = ℕ} 0 1 = cc in omega arith

abbrev left_of : Popped → ℕ
left_of None = 0
left_of (Some (x, m)) = m

-- the slot that a pop frees is there
pub freed : (q : Queue) (n : ℕ) {p : Queue} {m : ℕ} {r : Popped} {x : Event} → (r, p) ≡ popping q n → r ≡ Some (x, m) → m + 1 ≤ slots q
freed q n {p} {m} {r} {x} e h = go (ltb 0 n) (leb n (slots q)) refl refl (λ t. (e t).0) where
  go : (s t : Bool) → ltb 0 n ≡ s → leb n (slots q) ≡ t → r ≡ (cond {A = Popped × Queue} (s && t) (Some (at q 0, n - 1), popped q (n - 1)) (None, q)).0 → m + 1 ≤ slots q
  go true true a b e = let z : m ≡ n - 1 = sym (ap left_of h) ∙ ap left_of e in omega (arith, ltb-true 0 n a, leb-true n (slots q) b)
  go true false a b e = absurd (not_both e h)
  go false true a b e = absurd (not_both e h)
  go false false a b e = absurd (not_both e h)
