-- One turn of the Rust's `while let Some(Event(key, id, vertex)) = field.queue.pop()`, over the state. Definitions only.
use Rattle.std.specs.Prelude.{ℕ, Bool, true, false, ◌&&◌, List, [], get_or, Float, if◌then◌else◌, Option, None, Some}
use Rattle.float64.specs.Scalar.{zero64}
use Rattle.source.specs.declared.Src.TheVariants.{Point}
use Rattle.topology.specs.Edges.{no_face}
use Rattle.heap.specs.declared.Item.{Item}
use Rattle.heap.specs.declared.Item.TheVariants.{Window as Item-as-Window, Vertex as Item-as-Vertex}
use Rattle.heap.specs.Queue.{Queue, popping, Popped}
use Rattle.windows.specs.declared.WindowRecord.{WindowRecord}
use Rattle.actions.specs.Actions.{stock, distance_of}
use Rattle.field_tests.specs.Tests.{emits_of, goes_on_of, emitted_of, with_emitted}
use Rattle.windows_there.specs.of_trim_model.Model.{Candidate}
use Rattle.windows_there.specs.of_trim_state.State.{State, Result, went}
use Rattle.windows_there.specs.of_pop.State.{after_pop}
use Rattle.spread.specs.of_offers.Offers.{add_all}
use Rattle.spread.specs.of_offers.Walks.{edge_data}
use Rattle.spread.specs.of_spread_offers.declared.Spread.{Spread}
use Rattle.spread.specs.of_spread_offers.declared.Spread.TheVariants.{Window, Vertex}
use Rattle.spread.specs.of_spread_offers.Spreading.{spread_candidates}

-- what is read for a number that no window has
abbrev pub no_window : WindowRecord
no_window = record {
  edge = record { 0 = 0 };
  carried = record { into = record { 0 = no_face }; queued = false };
  alive = false;
  link = 0;
  win = record { b0 = zero64; b1 = zero64; low = zero64; src = Point zero64 zero64 zero64 };
}

-- ---- what an event that was popped passes on: `continue`, or an `emit` or a `propagate`
-- `let d = field.vertex[id]; if d < key || d >= field.emitted[id] - 1e-10 * (1. + d) { continue; }`
unfoldable pub vertex_turn : List Float → ℕ → Float → Option Spread
vertex_turn vertex k key =
    let d = distance_of vertex k in
    if emits_of d key (emitted_of vertex k) then Some (Vertex (record { 0 = k }) d) else None

-- `if w.into != NONE && w.src.lowest(w.b0, w.b1) <= field.limit { field.propagate(w); }`
unfoldable pub window_turn : Float → WindowRecord → Option Spread
window_turn limit w =
    if goes_on_of w.carried.into w.win.b0 w.win.b1 w.win.src limit then
    Some (Window w.edge w.carried.into w.win.b0 w.win.b1 w.win.src) else None

-- s is the state before the pop: `let w = field.wins[id]; if !w.alive || !w.queued { continue; }`
unfoldable pub turn_of : Float → Item → Float → State → Option Spread
turn_of limit (Item-as-Window id) key s =
    let w = get_or s.wins id.0 no_window in
    if w.alive && w.carried.queued then window_turn limit w else None
turn_of limit (Item-as-Vertex k) key s = vertex_turn s.stock.vertex k.0 key

-- `field.emitted[id] = d`
unfoldable pub marked_vertex : Spread → List Float → List Float
marked_vertex (Window e g b0 b1 src) vertex = vertex
marked_vertex (Vertex k d) vertex = with_emitted vertex k.0 d

abbrev pub marked : Spread → State → State
marked c s = record { wins = s.wins; live = s.live; stock = stock s.stock.made s.stock.queued s.stock.queue (marked_vertex c s.stock.vertex) }

-- ---- the turn; `cuts` and `windows` are the counts of the cut buffer and the window buffer, `flags` the vertices' words
module _ (cuts windows : ℕ) (limit : Float) (flags : List ℕ) (v : List Float) (triangles : List ℕ) where
  unfoldable pub after_turn : Option Spread → State → Result
  after_turn None s = went s
  after_turn (Some c) s = add_all cuts windows limit flags (edge_data v triangles) (spread_candidates v triangles c) (marked c s)

  unfoldable pub step_with : State → Popped × Queue → Result
  step_with s (None, q) = went s
  step_with s (Some (x, k), q) = after_turn (turn_of limit x.item x.key s) (after_pop s (Some (x, k), q))

  -- where the queue is empty nothing is done
  abbrev pub step_of : State → Result
  step_of s = step_with s (popping s.stock.queue s.stock.queued)

unfoldable pub is_empty : Popped → Bool
is_empty None = true
is_empty (Some (x, k)) = false

abbrev pub idle_of : State → Bool
idle_of s = is_empty (popping s.stock.queue s.stock.queued).0

-- ---- the candidates of a turn, which demand 3 follows
module _ (limit : Float) (v : List Float) (triangles : List ℕ) where
  unfoldable pub turn_candidates : Option Spread → List Candidate
  turn_candidates None = []
  turn_candidates (Some c) = spread_candidates v triangles c

  unfoldable pub candidates_with : State → Popped → List Candidate
  candidates_with s None = []
  candidates_with s (Some (x, k)) = turn_candidates (turn_of limit x.item x.key s)

  abbrev pub step_candidates : State → List Candidate
  step_candidates s = candidates_with s (popping s.stock.queue s.stock.queued).0
