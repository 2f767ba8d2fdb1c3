-- A list of operations on values, from empty edges on. Definitions only.
use Rattle.std.specs.Prelude.{ℕ, suc, Bool, ◌&&◌, ltb, Float}
use Rattle.std.proofs.Math.Bool.{cond}
use mathlib.Core.List.{List, [], ◌∷◌}
use Rattle.std.specs.Float.Ieee.{lt, le}
use Rattle.std.specs.Float.Ieee.Scale.{finite}
use Rattle.float64.specs.Scalar.{zero64}
use Rattle.heap.specs.Queue.{Queue, popping}
use Rattle.actions.specs.Actions as actions
use Rattle.actions.specs.Actions.{stock, act}
use Rattle.pop.specs.of_trim_model.Model.{Candidate}
use Rattle.pop.specs.of_trim_state.State.{State, Result, stopped, went, finish, EdgeData, add_of}
use Rattle.pop.specs.State.{after_pop}
use Rattle.trim_operations.specs.Operations.{Operation, add, pop, touch, unknown}

-- ---- which operations are refused, and by which numbers: 70 for an unknown kind; 71 for a candidate whose edge is missing or has no finite length above zero; 72 for one whose
-- ends are no numbers from 0 to the length; 73 for a vertex that is missing
abbrev pub has_length : Float → Bool
has_length l = lt zero64 l && finite l

abbrev pub is_on_edge : Float → Float → Bool
is_on_edge l x = le zero64 x && le x l

-- the number of a candidate's refusal, where there are so many edges; 0 is none
abbrev pub operation_refusal : ℕ → ℕ → Float → Float → Float → ℕ
operation_refusal edges e l b0 b1 = cond (ltb e edges && has_length l) (cond (is_on_edge l b0 && is_on_edge l b1) 0 72) 71

module _ (cuts windows : ℕ) (limit : Float) (flags : List ℕ) (mesh : EdgeData) (edges vertices : ℕ) where
  unfoldable pub try_add : Candidate → State → Result
  unfolding add_of
  try_add c s =
      let l = mesh.len c.edge in
      cond (ltb c.edge edges && has_length l)
      (cond (is_on_edge l c.b0 && is_on_edge l c.b1) (add_of cuts windows limit flags mesh c s) (stopped 72))
      (stopped 71)

  unfoldable pub operate : Operation → State → Result
  unfolding try_add after_pop
  operate (add c) s = try_add c s
  operate pop s = went (after_pop s (popping s.stock.queue s.stock.queued))
  operate (touch v d) s = cond (ltb v vertices) (finish s.wins s.live (act cuts windows limit flags (actions.touch v d) s.stock)) (stopped 73)
  operate unknown s = stopped 70

-- a list ends before the operation that is stopped, and its place in the list and the number are told
pub data Run : Type 0 where
  ended : ℕ → ℕ → State → Run
  ran : State → Run

module _ (cuts windows : ℕ) (limit : Float) (flags : List ℕ) (mesh : EdgeData) (edges vertices : ℕ) where
  unfoldable pub then_run : ℕ → State → Result → (State → Run) → Run
  then_run k s (stopped n) next = ended k n s
  then_run k s (went t) next = next t

  -- the operations, the first of which is number k of the list
  unfoldable pub run_from : ℕ → List Operation → State → Run
  unfolding operate then_run
  run_from k [] s = ran s
  run_from k (o ∷ ops) s = then_run k s (operate cuts windows limit flags mesh edges vertices o s) (run_from (suc k) ops)

-- at first there are no windows and no events
abbrev pub start_state : Queue → List Float → State
start_state queue vertex = record { wins = []; live = λ (e : ℕ). []; stock = stock 0 0 queue vertex }
