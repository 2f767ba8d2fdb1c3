-- The queue of a definition: the list of its events in 01's order, or any other that pops the least. Definitions only.
use Rattle.std.specs.Prelude.{List, [], ◌∷◌, ◌≡◌}
use Rattle.heap.specs.declared.Event.{Event}
use Rattle.heap.specs.Model.{insert_event, SameEvents, TakenFrom, nothing, event, TakesLeast, AnyQueue}

-- its states, the events that wait in each, in some order, and what a push and a pop make of it
pub record QueueKind : Type 1 where
  pub State : Type 0
  pub events : State → List Event
  pub start : State
  pub put : Event → State → State
  pub take : State → TakenFrom State

-- ---- the list in order: an event is put before the first that comes after it, and the first of the list is taken
abbrev pub first_taken : List Event → TakenFrom (List Event)
first_taken [] = nothing
first_taken (x ∷ l) = event x l

abbrev pub queue_in_order : QueueKind
queue_in_order = record { State = List Event; events = λ (l : List Event). l; start = []; put = insert_event; take = first_taken }

-- ---- any queue, in whatever states it comes to: a pop takes an event that none comes before, and leaves the rest
abbrev pub OfRest : {S : Type 0} → (S → Type 0) → TakenFrom S → Type 0
OfRest P nothing = Unit {0}
OfRest P (event x t) = P t

pub record LeastFirst (Q : QueueKind) : Type 1 where
  -- the states that it comes to
  pub Reached : Q.State → Type 0
  pub at_start : Reached Q.start
  pub after_put : (e : Event) (s : Q.State) → Reached s → Reached (Q.put e s)
  pub after_take : (s : Q.State) → Reached s → OfRest Reached (Q.take s)
  pub starts : Q.events Q.start ≡ []
  pub puts : (e : Event) (s : Q.State) → Reached s → SameEvents (e ∷ Q.events s) (Q.events (Q.put e s))
  pub takes : (s : Q.State) → Reached s → TakesLeast Q.events s (Q.take s)

-- crate heap's queues without their laws
abbrev pub queue_kind : AnyQueue → QueueKind
queue_kind A = record { State = A.State; events = A.events; start = A.start; put = A.put; take = A.take }
