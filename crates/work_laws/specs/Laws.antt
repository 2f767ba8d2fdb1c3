-- What holds of every state that the work on a job comes to: `state_laws` in proofs/Laws.antt. Definitions only.
use Rattle.std.specs.Prelude.{ℕ, ◌*◌, ◌≤◌, List, ◌≡◌, length, get_or, Float}
use Rattle.layout.specs.Layout.{reals_per_vertex}
use Rattle.float64.specs.Scalar.{zero64}
use Rattle.last_pass.specs.of_better.Claim.{All}
use Rattle.heap.specs.Queue.{slots}
use Rattle.topology.specs.Frames.{len}
use Rattle.last_pass.specs.of_trim_model.Model.{Candidate}
use Rattle.last_pass.specs.of_trim_state.State.{State}
use Rattle.last_pass.specs.of_trim_state.Follows.{Follows}
use Rattle.inside_edges.specs.Inside.{OnLength}
use Rattle.field_work.specs.of_windows_there.There.{GoesInto, WindowsThere, EventsThere}
use Rattle.last_pass.specs.Finished.{Recorded}
use Rattle.work_laws.specs.Account.{Accounted}

-- of a mesh of n vertices, where there are slots for so many windows; `reals` is the number of the vertices' reals
pub record StateLaws (limit : Float) (v : List Float) (triangles : List ℕ) (n windows reals : ℕ) (past : List Candidate) (s : State) : Type 0 where
  -- the live lists are those of the reference model with the candidates so far
  pub follows : Follows limit (len v triangles) past s.stock.made s.live
  -- their ends are from 0 to the length of their edge
  pub inside : (e : ℕ) → All (OnLength (len v triangles e)) (s.live e)
  -- every window made is one of an edge of the mesh, and goes into a face of that edge or into none; every vertex that an event names is the mesh's
  pub there : WindowsThere (GoesInto triangles) s
  pub events : EventsThere n s
  -- as many windows are made as the list has, and `low` is right of each
  pub recorded : Recorded s
  -- each live window is the window of its number, and has an event where it is queued
  pub accounted : Accounted s
  pub fits : s.stock.made ≤ windows
  -- and no more events are queued than there are slots for
  pub queue_fits : s.stock.queued ≤ slots s.stock.queue
  pub vertices : length s.stock.vertex ≡ reals
  -- zeros past the mesh's vertices
  pub beyond : (p : ℕ) → reals_per_vertex * n ≤ p → get_or s.stock.vertex p zero64 ≡ zero64
