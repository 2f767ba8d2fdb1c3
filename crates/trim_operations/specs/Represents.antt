-- What the lent buffers say of a state, and an answer of a result. Definitions only.
use Rattle.std.specs.Prelude.{ℕ, List, ◌≡◌, T, Float, Result, Ok, Err}
use Rattle.std.specs.Float.{binary64}
use Rattle.std.specs.Float.Ieee.{fits}
use Rattle.buffers.specs.Lack.{lack_number}
use Rattle.heap.specs.Queue.{queue}
use Rattle.chains.specs.Chains.{links}
use Rattle.actions.specs.Actions as actions
use Rattle.pop.specs.of_trim_state.State.{State}
use Rattle.pop.specs.of_live_windows.Live.{HoldsWindows}
use Rattle.trim_operations.specs.declared.OperationRefusal.{OperationRefusal}
use Rattle.trim_operations.specs.declared.OperationRefusal.TheVariants.{UnknownKind, NoEdge, EndOutside, NoVertex, NoSlot}
use Rattle.trim_operations.specs.Run.{operation_refusal}

-- so many windows are made and so many events queued; all windows made and the live windows of every edge stand in the window buffer and its chains, and the queue and the vertex distances are the lists
pub record Represents (made queued : ℕ) (edges words : List ℕ) (reals keys : List Float) (events : List ℕ) (vertex : List Float) (s : State) : Type 0 where
  pub holds : HoldsWindows made s.wins (links edges words) reals s.live
  pub stock : s.stock ≡ actions.stock made queued (queue keys events) vertex

-- the number of a refusal, and of what a check answers: 0 is none
abbrev pub refusal_number : OperationRefusal → ℕ
refusal_number UnknownKind = 70
refusal_number NoEdge = 71
refusal_number EndOutside = 72
refusal_number NoVertex = 73
refusal_number (NoSlot lack) = lack_number lack

abbrev pub checked_number : Result (Unit {0}) OperationRefusal → ℕ
checked_number (Err refusal) = refusal_number refusal
checked_number (Ok u) = 0

-- r is the number of a candidate's refusal, of edge e with length l, and the numbers are doubles
pub record CheckedCandidate (m e : ℕ) (l b0 b1 : Float) (r : ℕ) : Type 0 where
  pub number : r ≡ operation_refusal m e l b0 b1
  pub start : T (fits binary64 b0)
  pub end : T (fits binary64 b1)
  pub length : T (fits binary64 l)
