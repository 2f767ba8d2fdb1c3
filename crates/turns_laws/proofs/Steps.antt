-- Turns on values that end with an empty queue: as many as there were steps suffice. Assumes nothing.
use Prim.Native.Nat.{ℕ, zero, suc, ◌+◌}
use native.Mathlib.Omega.{arith}
use mathlib.Core.Bool.{Bool, true, false}
use mathlib.Core.List.{List, [], ◌++◌}
use mathlib.Core.Path.{◌≡◌, refl, sym, ap, subst, ◌∙◌}
use lib.Ieee.{Float}
use Rattle.compute.specs.of_trim_model.Model.{Candidate}
use Rattle.advance_c.specs.of_trim_state.State.{State, Result, stopped, went}
use Rattle.compute.specs.of_offers.Offers.{and_next}
use Rattle.advance_c.specs.of_field_step.Step.{step_of, idle_of, step_candidates}
use Rattle.advance_c.specs.of_advance.Advance.{of_state, advance_of, steps_of, advance_candidates}
use Rattle.advance_c.proofs.laws_of_advance.More.{advance_idle, candidates_idle, steps_idle, advance_more, candidates_more, steps_more}

module _ (cuts windows : ℕ) (limit : Float) (flags : List ℕ) (v : List Float) (triangles : List ℕ) where
  abbrev step : State → Result
  step = step_of cuts windows limit flags v triangles

  abbrev advance : ℕ → State → Result
  advance = advance_of cuts windows limit flags v triangles

  abbrev taken : ℕ → State → ℕ
  taken = steps_of cuts windows limit flags v triangles

  abbrev candidates : ℕ → State → List Candidate
  candidates = advance_candidates cuts windows limit flags v triangles

  -- ---- i turns went to t, and then come j
  module _ (i j : ℕ) (s t : State) (h : advance i s ≡ went t) where
    pub advance_then : advance (i + j) s ≡ advance j t
    unfolding and_next
    advance_then = advance_more cuts windows limit flags v triangles i j s ∙ ap (λ (r : Result). and_next r (advance j)) h

    pub candidates_then : candidates (i + j) s ≡ candidates i s ++ candidates j t
    unfolding of_state
    candidates_then = candidates_more cuts windows limit flags v triangles i j s ∙ ap (λ (r : Result). candidates i s ++ of_state [] (candidates j) r) h

    pub steps_then : taken (i + j) s ≡ taken i s + taken j t
    unfolding of_state
    steps_then = steps_more cuts windows limit flags v triangles i j s ∙ ap (λ (r : Result). taken i s + of_state 0 (taken j) r) h

  pub stopped_more : (i j : ℕ) (s : State) (k : ℕ) → advance i s ≡ stopped k → advance (i + j) s ≡ stopped k
  unfolding and_next
  stopped_more i j s k h = advance_more cuts windows limit flags v triangles i j s ∙ ap (λ (r : Result). and_next r (advance j)) h

  -- ---- k turns come to what m turns come to, and each is a step
  abbrev pub Enough : ℕ → State → State → ℕ → Type 0
  Enough m s u k = (advance k s ≡ went u) × ((taken k s ≡ k) × (candidates k s ≡ candidates m s))

  taken_next : (m : ℕ) (s : State) → idle_of s ≡ false → taken (suc m) s ≡ suc (of_state 0 (taken m) (step s))
  unfolding steps_of
  taken_next m s e = rw e refl

  -- the first turn went to w
  enough_next : (m : ℕ) (s w u : State) → idle_of s ≡ false → step s ≡ went w → (k : ℕ) → Enough m w u k → Enough (suc m) s u (suc k)
  unfolding advance_of and_next advance_candidates of_state
  enough_next m s w u busy e k E = (
    ap (λ (r : Result). and_next r (advance k)) e ∙ E.0,
    (
      taken_next k s busy ∙ ap (λ (r : Result). suc (of_state 0 (taken k) r)) e ∙ ap suc E.1.0,
      ap (λ (r : Result). step_candidates limit v triangles s ++ of_state [] (candidates k) r) e
          ∙ ap (λ (l : List Candidate). step_candidates limit v triangles s ++ l) E.1.1
          ∙ sym (ap (λ (r : Result). step_candidates limit v triangles s ++ of_state [] (candidates m) r) e),
    ),
  )

  pub steps_enough : (m : ℕ) (s u : State) → advance m s ≡ went u → idle_of u ≡ true → Enough m s u (taken m s)
  unfolding advance_of and_next steps_of advance_candidates of_state
  steps_enough zero s u h idle = (h, (refl, refl))
  steps_enough (suc m) s u h idle = at (steps_enough m) (idle_of s) refl where
    Later : Type 0
    Later = (w z : State) → advance m w ≡ went z → idle_of z ≡ true → Enough m w z (taken m w)

    go : Later → idle_of s ≡ false → (r : Result) → step s ≡ r → and_next r (advance m) ≡ went u → Enough (suc m) s u (suc (of_state 0 (taken m) r))
    go ih busy (stopped k) e g = let z : ◌≡◌ {A = ℕ} 0 1 = ap (of_state 0 (λ (x : State). 1)) g in absurd (omega (arith, z))
    go ih busy (went w) e g = enough_next m s w u busy e (taken m w) (ih w u g idle)

    at : Later → (b : Bool) → idle_of s ≡ b → Enough (suc m) s u (taken (suc m) s)
    at ih true e = subst (Enough (suc m) s u) (sym (steps_idle cuts windows limit flags v triangles s e (suc m)))
        (sym (advance_idle cuts windows limit flags v triangles s e (suc m)) ∙ h, (refl, sym (candidates_idle cuts windows limit flags v triangles s e (suc m))))
    at ih false e = subst (Enough (suc m) s u) (sym (taken_next m s e)) (go ih e (step s) refl h)
