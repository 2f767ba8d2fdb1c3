-- The ways that a pop can go, by what its callees answer. Assumes nothing.
use Prim.Native.Nat.{ℕ, ◌≤◌, ◌<◌}
use mathlib.Core.Bool.{Bool, true, false}
use mathlib.Core.List.{List}
use mathlib.Core.Path.{◌≡◌, refl, sym, ap, ◌∙◌}
use borrow.Author.Tests.{lt-ltb, le-ltb}
use Rattle.layout.specs.Layout.{alive_flag, queued_flag}
use Rattle.windows.specs.Windows.{has_flag, flags_at, flags_with}
use Rattle.heap.specs.declared.Event.{Event}
use Rattle.std.specs.Prelude.{Option, None, Some}
use Rattle.heap.specs.Queue.{Queue, Popped}
use Rattle.pop.specs.declared.Taken.{Taken}
use Rattle.pop.specs.Words.{is_pending, claimed, item_pending, item_claimed, taken_of, words_after}

module _ (made : ℕ) (w : List ℕ) (i : ℕ) where
  abbrev Claims : Bool → List ℕ → Type 0
  Claims r w' = (r ≡ is_pending made w i) × (w' ≡ claimed made w i)

  pub claims_far : made ≤ i → Claims false w
  claims_far h = rw (le-ltb i made h) (refl, refl)

  module _ (l : i < made) (flags : ℕ) (is : flags ≡ flags_at w i) (alive : Bool) (isAlive : alive ≡ has_flag flags alive_flag) where
    alive_is : (b : Bool) → alive ≡ b → has_flag (flags_at w i) alive_flag ≡ b
    alive_is b h = ap (λ n. has_flag n alive_flag) (sym is) ∙ sym isAlive ∙ h

    pub claims_dead : alive ≡ false → Claims false w
    claims_dead h = rw (lt-ltb i made l, alive_is false h) (refl, refl)

    module _ (yes : alive ≡ true) (queued : Bool) (is_queued : queued ≡ has_flag flags queued_flag) where
      queued_is : (b : Bool) → queued ≡ b → has_flag (flags_at w i) queued_flag ≡ b
      queued_is b h = ap (λ n. has_flag n queued_flag) (sym is) ∙ sym is_queued ∙ h

      pub claims_idle : queued ≡ false → Claims false w
      claims_idle h = rw (lt-ltb i made l, alive_is true yes, queued_is false h) (refl, refl)

      pub claims_done : queued ≡ true → (w' : List ℕ) → w' ≡ flags_with w i true false → Claims true w'
      claims_done h w' d = rw (lt-ltb i made l, alive_is true yes, queued_is true h) (refl, d)

-- ---- the whole, with what the heap's pop answered
module _ (made : ℕ) (w : List ℕ) (p : Popped × Queue) (q : Queue) where
  abbrev Pops : Option Taken → List ℕ → Type 0
  Pops r w' = (r ≡ taken_of made w p.0) × ((w' ≡ words_after made w p.0) × (q ≡ p.1))

  pub pops_none : (None, q) ≡ p → Pops None w
  unfolding taken_of words_after
  pops_none h = (ap (λ z. taken_of made w z.0) h, (ap (λ z. words_after made w z.0) h, ap (λ z. z.1) h))

  pub pops_one : (x : Event) (n : ℕ) → (Some (x, n), q) ≡ p → (b : Bool) → b ≡ item_pending made w x.item → (w' : List ℕ) → w' ≡ item_claimed made w x.item → Pops (Some (record { event = x; queued = n; pending = b })) w'
  unfolding taken_of words_after
  pops_one x n h b is_pending w' isWords =
      (ap (λ (c : Bool). Some (record { event = x; queued = n; pending = c })) is_pending ∙ ap (λ z. taken_of made w z.0) h, (isWords ∙ ap (λ z. words_after made w z.0) h, ap (λ z. z.1) h))
