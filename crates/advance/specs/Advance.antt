-- Up to so many turns of the Rust's main loop, over the state. Definitions only: `advance_more` in proofs/More.antt says that a number of turns and then more are all of them at once.
use Prim.Native.Nat.{ℕ, zero, suc}
use mathlib.Core.List.{List, [], ◌++◌}
use Rattle.std.specs.Prelude.{Float, if◌then◌else◌}
use Rattle.insertion.specs.of_trim_model.Model.{Candidate}
use Rattle.field_step.specs.of_trim_state.State.{State, Result, stopped, went}
use Rattle.insertion.specs.of_offers.Offers.{and_next}
use Rattle.field_step.specs.Step.{step_of, idle_of, step_candidates}

-- what is said of the state that a result leaves; d of a stop
unfoldable pub of_state : {A : Type 0} → A → (State → A) → Result → A
of_state d f (stopped k) = d
of_state d f (went s) = f s

module _ (cuts windows : ℕ) (limit : Float) (flags : List ℕ) (v : List Float) (triangles : List ℕ) where
  -- the first turn that there is no slot for stops them; where the queue is empty a turn does nothing
  unfoldable pub advance_of : ℕ → State → Result
  unfolding and_next
  advance_of zero s = went s
  advance_of (suc k) s = and_next (step_of cuts windows limit flags v triangles s) (advance_of k)

  -- how many events are popped: the Rust's `steps`
  unfoldable pub steps_of : ℕ → State → ℕ
  unfolding of_state
  steps_of zero s = 0
  steps_of (suc k) s = if idle_of s then 0 else suc (of_state 0 (steps_of k) (step_of cuts windows limit flags v triangles s))

  -- the candidates, which demand 3 follows
  unfoldable pub advance_candidates : ℕ → State → List Candidate
  unfolding of_state
  advance_candidates zero s = []
  advance_candidates (suc k) s = step_candidates limit v triangles s ++ of_state [] (advance_candidates k) (step_of cuts windows limit flags v triangles s)
