-- Turns and then more: advance_more, candidates_more, steps_more. Where the queue is empty nothing more is done: step_idle, advance_idle, candidates_idle, steps_idle. Assumes nothing.
use Prim.Native.Nat.{ℕ, zero, suc, ◌+◌}
use native.Mathlib.Omega.{arith}
use mathlib.Core.Bool.{Bool, true, false, cond}
use mathlib.Core.List.{List, [], ◌++◌, append-nil, append_assoc}
use mathlib.Core.Path.{◌≡◌, refl, sym, ap, subst, ◌∙◌}
use lib.Dec.{T}
use lib.Ieee.{Float}
use Rattle.std.specs.Prelude.{None, Some}
use Rattle.heap.specs.Queue.{Queue, popping, Popped}
use Rattle.insertion.specs.of_trim_model.Model.{Candidate}
use Rattle.field_step.specs.of_trim_state.State.{State, Result, stopped, went}
use Rattle.insertion.specs.of_offers.Offers.{and_next}
use Rattle.field_step.specs.Step.{step_with, step_of, is_empty, idle_of, candidates_with, step_candidates}
use Rattle.advance.specs.Advance.{of_state, advance_of, steps_of, advance_candidates}

module _ (cuts windows : ℕ) (limit : Float) (flags : List ℕ) (v : List Float) (triangles : List ℕ) where
  abbrev step : State → Result
  step = step_of cuts windows limit flags v triangles

  abbrev advance : ℕ → State → Result
  advance = advance_of cuts windows limit flags v triangles

  abbrev taken : ℕ → State → ℕ
  taken = steps_of cuts windows limit flags v triangles

  abbrev candidates : ℕ → State → List Candidate
  candidates = advance_candidates cuts windows limit flags v triangles

  -- ---- the queue is empty
  empty_step : (s : State) (p : Popped × Queue) → is_empty p.0 ≡ true → step_with cuts windows limit flags v triangles s p ≡ went s
  unfolding step_with is_empty
  empty_step s (None, q) h = refl
  empty_step s (Some (x, k), q) h = absurd (subst T (sym h) tt)

  empty_candidates : (s : State) (p : Popped) → is_empty p ≡ true → candidates_with limit v triangles s p ≡ []
  unfolding candidates_with is_empty
  empty_candidates s None h = refl
  empty_candidates s (Some (x, k)) h = absurd (subst T (sym h) tt)

  module _ (s : State) (idle : idle_of s ≡ true) where
    pub step_idle : step s ≡ went s
    step_idle = empty_step s (popping s.stock.queue s.stock.queued) idle

    pub no_candidates : step_candidates limit v triangles s ≡ []
    no_candidates = empty_candidates s (popping s.stock.queue s.stock.queued).0 idle

    pub advance_idle : (k : ℕ) → advance k s ≡ went s
    unfolding advance_of and_next
    advance_idle zero = refl
    advance_idle (suc k) = ap (λ (r : Result). and_next r (advance k)) step_idle ∙ advance_idle k

    pub candidates_idle : (k : ℕ) → candidates k s ≡ []
    unfolding advance_candidates of_state
    candidates_idle zero = refl
    candidates_idle (suc k) = (λ i. no_candidates i ++ of_state [] (candidates k) (step_idle i)) ∙ candidates_idle k

    pub steps_idle : (k : ℕ) → taken k s ≡ 0
    unfolding steps_of
    steps_idle zero = refl
    steps_idle (suc k) = rw idle refl

  -- ---- one turn
  pub advance_one : (s : State) → advance 1 s ≡ step s
  unfolding advance_of and_next
  advance_one s = go (step s) where
    go : (r : Result) → and_next r (advance 0) ≡ r
    go (stopped k) = refl
    go (went t) = refl

  pub candidates_one : (s : State) → candidates 1 s ≡ step_candidates limit v triangles s
  unfolding advance_candidates of_state
  candidates_one s = go (step s) where
    go : (r : Result) → step_candidates limit v triangles s ++ of_state [] (candidates 0) r ≡ step_candidates limit v triangles s
    go (stopped k) = append-nil (step_candidates limit v triangles s)
    go (went t) = append-nil (step_candidates limit v triangles s)

  pub steps_one : (s : State) → idle_of s ≡ false → taken 1 s ≡ 1
  unfolding steps_of of_state
  steps_one s h = rw h (go (step s)) where
    go : (r : Result) → suc (of_state 0 (taken 0) r) ≡ 1
    go (stopped k) = refl
    go (went t) = refl

  -- ---- j turns after i
  pub advance_more : (i j : ℕ) (s : State) → advance (i + j) s ≡ and_next (advance i s) (advance j)
  unfolding advance_of and_next
  advance_more zero j s = let z : 0 + j ≡ j = omega arith in ap (λ (k : ℕ). advance k s) z
  advance_more (suc i) j s = let z : suc i + j ≡ suc (i + j) = omega arith in ap (λ (k : ℕ). advance k s) z ∙ go (advance_more i j) (step s) where
    go : ((t : State) → advance (i + j) t ≡ and_next (advance i t) (advance j)) → (r : Result) → and_next r (advance (i + j)) ≡ and_next (and_next r (advance i)) (advance j)
    go ih (stopped k) = refl
    go ih (went t) = ih t

  pub candidates_more : (i j : ℕ) (s : State) → candidates (i + j) s ≡ candidates i s ++ of_state [] (candidates j) (advance i s)
  unfolding advance_candidates advance_of of_state and_next
  candidates_more zero j s = let z : 0 + j ≡ j = omega arith in ap (λ (k : ℕ). candidates k s) z
  candidates_more (suc i) j s = let z : suc i + j ≡ suc (i + j) = omega arith in ap (λ (k : ℕ). candidates k s) z ∙ go (candidates_more i j) (step s) where
    first : List Candidate
    first = step_candidates limit v triangles s

    go : ((t : State) → candidates (i + j) t ≡ candidates i t ++ of_state [] (candidates j) (advance i t))
        → (r : Result) → first ++ of_state [] (candidates (i + j)) r ≡ (first ++ of_state [] (candidates i) r) ++ of_state [] (candidates j) (and_next r (advance i))
    go ih (stopped k) = sym (append-nil (first ++ []))
    go ih (went t) = ap (λ (l : List Candidate). first ++ l) (ih t) ∙ sym (append_assoc first (candidates i t) (of_state [] (candidates j) (advance i t)))

  pub steps_more : (i j : ℕ) (s : State) → taken (i + j) s ≡ taken i s + of_state 0 (taken j) (advance i s)
  unfolding steps_of advance_of of_state and_next
  steps_more zero j s = let z : 0 + j ≡ j = omega arith in ap (λ (k : ℕ). taken k s) z ∙ omega arith
  steps_more (suc i) j s = let z : suc i + j ≡ suc (i + j) = omega arith in ap (λ (k : ℕ). taken k s) z ∙ at (steps_more i j) (idle_of s) refl where
    Later : Type 0
    Later = (t : State) → taken (i + j) t ≡ taken i t + of_state 0 (taken j) (advance i t)

    go : Later → (r : Result) → suc (of_state 0 (taken (i + j)) r) ≡ suc (of_state 0 (taken i) r) + of_state 0 (taken j) (and_next r (advance i))
    go ih (stopped k) = omega arith
    go ih (went t) = omega (arith, ih t)

    at : Later → (b : Bool) → idle_of s ≡ b → cond b 0 (suc (of_state 0 (taken (i + j)) (step s))) ≡ cond b 0 (suc (of_state 0 (taken i) (step s))) + of_state 0 (taken j) (and_next (step s) (advance i))
    at ih false h = go ih (step s)
    at ih true h =
        let r : of_state 0 (taken j) (and_next (step s) (advance i)) ≡ 0 = ap (λ (x : Result). of_state 0 (taken j) (and_next x (advance i))) (step_idle s h) ∙ ap (of_state 0 (taken j)) (advance_idle s h i) ∙ steps_idle s h j in
        omega (arith, r)
