-- A pop, by its answer, leaves buffers that stand for the state after it. Assumes nothing.
use Prim.Native.Nat.{ℕ, ◌*◌, ◌≤◌}
use mathlib.Core.List.{List}
use mathlib.Core.Path.{◌≡◌, refl, sym, ap, subst, ◌∙◌}
use lib.ListN.{length, drop}
use lib.Ieee.{Float}
use Rattle.layout.specs.Layout.{words_per_window}
use Rattle.windows.specs.Windows.{capacity_of}
use Rattle.heap.specs.declared.Event.{Event}
use Rattle.std.specs.Prelude.{None, Some}
use Rattle.heap.specs.Queue.{Queue, queue, popping, Popped}
use Rattle.chains.specs.Chains.{links}
use Rattle.actions.specs.Actions as actions
use Rattle.actions.specs.Actions.{Stock}
use Rattle.trim.specs.of_trim_state.State.{State}
use Rattle.trim.specs.of_live_windows.Live.{HoldsWindows}
use Rattle.trim_operations.specs.of_pop.declared.Taken.{Taken}
use Rattle.trim_operations.specs.of_pop.Words.{taken_of, words_after}
use Rattle.trim_operations.specs.of_pop.State.{wins_claimed, live_claimed, after_pop}
use Rattle.trim_operations.proofs.laws_of_pop.Claimed.{item_holds, item_words}
use Rattle.trim_operations.proofs.laws_of_pop.Answers.{taken_none, taken_one, empty_queue}
use Rattle.trim_operations.specs.Represents.{Represents}
use Rattle.run_operations.specs.Lists.{left_of, PopsFirst}

-- ---- the answer tells how many are left
module _ (made : ℕ) (words : List ℕ) (queued : ℕ) where
  pub left_none : (p : Popped) → None ≡ taken_of made words p → queued ≡ left_of queued p
  unfolding left_of
  left_none p h = ap (left_of queued) (sym (taken_none made words p h))

  pub left_one : (p : Popped) (t : Taken) → Some t ≡ taken_of made words p → t.queued ≡ left_of queued p
  unfolding left_of
  left_one p t h = ap (left_of queued) (sym (taken_one made words p t h).0)

-- ---- the buffers after it
module _ (made queued : ℕ) (edges words : List ℕ) (reals keys : List Float) (events : List ℕ) (vertex : List Float) (words' : List ℕ) (keys' : List Float) (events' : List ℕ)
    (s : State) (S : Represents made queued edges words reals keys events vertex s) where
  abbrev p : Popped × Queue
  p = popping (queue keys events) queued

  same_pop : popping s.stock.queue s.stock.queued ≡ p
  same_pop = ap (λ (k : Stock). popping k.queue k.queued) S.stock

  abbrev After : ℕ → Popped × Queue → Type 0
  After n z = (drop (words_per_window * made) words' ≡ drop (words_per_window * made) words) × Represents made n edges words' reals keys' events' vertex (after_pop s z)

  after_none : words' ≡ words_after made words None → queue keys' events' ≡ queue keys events → After queued (None, p.1)
  unfolding after_pop words_after
  after_none w q = (
    ap (drop (words_per_window * made)) w,
    record {
      holds = subst (λ (v : List ℕ). HoldsWindows made s.wins (links edges v) reals s.live) (sym w) S.holds;
      stock = S.stock ∙ ap (λ (z : Queue). actions.stock made queued z vertex) (sym q);
    },
  )

  after_one : made ≤ capacity_of (length words) (length reals) → (x : Event) (n : ℕ) → words' ≡ words_after made words (Some (x, n)) → queue keys' events' ≡ p.1 → After n (Some (x, n), p.1)
  unfolding after_pop words_after
  after_one room x n w q =
      let y = x.item in (
        ap (drop (words_per_window * made)) w ∙ item_words made words y,
        record {
          holds = subst (λ (v : List ℕ). HoldsWindows made (wins_claimed y s.wins) (links edges v) reals (λ e. live_claimed y (s.live e))) (sym w) (item_holds made words reals edges s.wins s.live S.holds y room);
          stock = λ t. actions.stock (S.stock t).made n (sym q t) (S.stock t).vertex;
        },
      )

  pub after_pop_lem : made ≤ capacity_of (length words) (length reals) → (n : ℕ) → PopsFirst made queued words keys events n words' keys' events'
      → (drop (words_per_window * made) words' ≡ drop (words_per_window * made) words) × Represents made n edges words' reals keys' events' vertex (after_pop s (popping s.stock.queue s.stock.queued))
  unfolding left_of
  after_pop_lem room n h = subst (λ (z : Popped × Queue). After n z) (sym same_pop) (go p.0 refl) where
    go : (x : Popped) → p.0 ≡ x → After n p
    go None d =
        subst (λ (k : ℕ). After k p) (sym (h.left ∙ ap (left_of queued) d))
        (subst (λ (x : Popped). After queued (x, p.1)) (sym d) (after_none (h.claims ∙ ap (words_after made words) d) (h.rest ∙ empty_queue (queue keys events) queued d)))
    go (Some (x, k)) d =
        subst (λ (j : ℕ). After j p) (sym (h.left ∙ ap (left_of queued) d))
        (subst (λ (y : Popped). After k (y, p.1)) (sym d) (after_one room x k (h.claims ∙ ap (words_after made words) d) h.rest))
