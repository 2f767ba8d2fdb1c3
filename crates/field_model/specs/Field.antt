-- The Rust's `Field` while it is computed (exact.rs: `add`, `touch`, and in `compute` the loop over `sources` and the main loop), with 01's refusals 12 to 15 and 17, which it has
-- none of. Its queue is any that pops the least event of 01's order (module 5, `Event`) and leaves the rest: no buffer of it is spoken of, only how many events it has slots for.
-- Definitions only: proofs/ says that the heap in its buffers comes to the same.
use Prim.Native.Nat.{ℕ, zero, suc}
use Rattle.std.specs.Prelude.{Bool, ◌&&◌, get_or, Float, if◌then◌else◌, Option, None, Some}
use mathlib.Core.List.{List, [], ◌∷◌, ◌++◌}
use Rattle.std.proofs.Math.Dec.{ltb, leb}
use Rattle.std.proofs.Math.ListN.{length}
use Rattle.std.specs.Float.Ieee.{lt, le}
use Rattle.buffers.specs.declared.Lack.TheVariants.{Windows, Events, Cuts, Entries}
use Rattle.buffers.specs.Lack.{lack_number}
use Rattle.compute_spec.specs.of_better.Stretches.{better_of}
use Rattle.heap.specs.declared.Event.{Event}
use Rattle.heap.specs.declared.Item.{Item}
use Rattle.heap.specs.declared.Item.TheVariants.{Window as Item-as-Window, Vertex as Item-as-Vertex}
use Rattle.heap.specs.Model.{taking}
use Rattle.windows.specs.declared.WindowRecord.{WindowRecord}
use Rattle.actions.specs.Actions.{Action, list, make, trim, kill, push, touch, wins_with, distance_of, with_distance}
use Rattle.compute_spec.specs.of_trim_model.Intervals.{tiny_of}
use Rattle.compute_spec.specs.of_trim_model.Windows.{Window}
use Rattle.compute_spec.specs.of_trim_model.Add.{add_to}
use Rattle.compute_spec.specs.of_trim_model.Model.{Candidate, as_window, admits}
use Rattle.compute_spec.specs.of_trim_state.Trace.{adding}
use Rattle.compute_spec.specs.of_trim_state.State.{put, edge_in}
use Rattle.compute_spec.specs.of_pop.State.{wins_claimed, live_claimed}
use Rattle.compute_spec.specs.of_offers.Offers.{offer_list}
use Rattle.compute_spec.specs.of_offers.Walks.{edge_data}
use Rattle.compute_spec.specs.of_face_entries.Entries.{FaceEntry}
use Rattle.compute_spec.specs.of_source_inserts.declared.Insert.{Insert}
use Rattle.compute_spec.specs.of_source_inserts.declared.Insert.TheVariants.{Entry, Offer}
use Rattle.compute_spec.specs.of_spread_offers.Spreading.{spread_candidates}
use Rattle.compute_spec.specs.of_spread_offers.declared.Spread.{Spread}
use Rattle.compute_spec.specs.of_field_step.Step.{no_window, vertex_turn, window_turn, marked_vertex, turn_candidates}
use Rattle.field_model.specs.Queue.{QueueKind}

-- `Field`, with a queue of states S
pub record FieldState (S : Type 0) : Type 0 where
  pub wins : List WindowRecord  -- `wins`: all windows made, in the order of their numbers, dead ones too
  pub live : ℕ → List Window  -- `on_edge`: of each edge its live windows in order
  pub vertex : List Float  -- `vertex` and `emitted`, two numbers for each vertex
  pub entries : List FaceEntry  -- `in_face`, as the list of its pushes
  pub queue : S  -- `queue`

abbrev pub with_wins : {S : Type 0} → List WindowRecord → FieldState S → FieldState S
with_wins wins f = record { wins = wins; live = f.live; vertex = f.vertex; entries = f.entries; queue = f.queue }

abbrev pub with_live : {S : Type 0} → (ℕ → List Window) → FieldState S → FieldState S
with_live live f = record { wins = f.wins; live = live; vertex = f.vertex; entries = f.entries; queue = f.queue }

abbrev pub with_vertex : {S : Type 0} → List Float → FieldState S → FieldState S
with_vertex vertex f = record { wins = f.wins; live = f.live; vertex = vertex; entries = f.entries; queue = f.queue }

abbrev pub with_entry : {S : Type 0} → FaceEntry → FieldState S → FieldState S
with_entry x f = record { wins = f.wins; live = f.live; vertex = f.vertex; entries = f.entries ++ (x ∷ []); queue = f.queue }

abbrev pub with_queue : {S : Type 0} → S → FieldState S → FieldState S
with_queue q f = record { wins = f.wins; live = f.live; vertex = f.vertex; entries = f.entries; queue = q }

-- a refusal by its number in 01, or what there is afterwards
pub data Reply (A : Type 0) : Type 0 where
  refused : ℕ → Reply A
  gives : A → Reply A

unfoldable pub and_go : {A B : Type 0} → Reply A → (A → Reply B) → Reply B
and_go (refused k) next = refused k
and_go (gives x) next = next x

-- what is listed of it; nothing where it is refused
unfoldable pub or_none : {A B : Type 0} → (A → List B) → Reply A → List B
or_none of (refused k) = []
or_none of (gives x) = of x

-- what is done to a field
abbrev pub Change : QueueKind → Type 0
Change Q = FieldState Q.State → Reply (FieldState Q.State)

-- 01's counts of the rooms that the job may fill
pub record Slots : Type 0 where
  pub windows : ℕ  -- 12
  pub events : ℕ  -- 13, the queue's
  pub cuts : ℕ  -- 14
  pub entries : ℕ  -- 17
  pub vertex_reals_held : ℕ  -- how many numbers the slice has in which `vertex` stands; no refusal counts them

-- any queue, the slots, `limit` (01's reach), `topo.pseudo`, which says of a vertex that it passes distances round itself, and the mesh
module _ (Q : QueueKind) (slots : Slots) (limit : Float) (pseudo : ℕ → Bool) (v : List Float) (triangles : List ℕ) where
  -- ---- `add`
  -- `queue.push(e)`; 13 where as many events wait as there are slots
  unfoldable pub push_in : Event → Change Q
  push_in e f = if ltb (length (Q.events f.queue)) slots.events then gives (with_queue (Q.put e f.queue) f) else refused (lack_number Events)

  -- `touch`: `if d < self.vertex[vx] { self.vertex[vx] = d; if self.topo.pseudo[vx] && d <= self.limit { self.queue.push(Event(d, vx, true)); } }`
  unfoldable pub touch_in : ℕ → Float → Change Q
  unfolding push_in
  touch_in k d f =
      if lt d (distance_of f.vertex k) then
      (let g = with_vertex (with_distance f.vertex k d) f in
      if pseudo k && le d limit then push_in (record { key = d; item = Item-as-Vertex (record { 0 = k }) }) g else gives g)
      else gives f

  -- one of the things that `add` does: one of its lists comes to n entries (14 where that is past the slots), `wins.push` (12 where every slot is taken), a window is trimmed or dies,
  -- `queue.push`, `touch`
  unfoldable pub act_in : Action → Change Q
  unfolding push_in touch_in wins_with
  act_in (list n) f = if leb n slots.cuts then gives f else refused (lack_number Cuts)
  act_in (make x) f = if ltb (length f.wins) slots.windows then gives (with_wins (wins_with (make x) f.wins) f) else refused (lack_number Windows)
  act_in (trim i b0 b1 low) f = gives (with_wins (wins_with (trim i b0 b1 low) f.wins) f)
  act_in (kill i) f = gives (with_wins (wins_with (kill i) f.wins) f)
  act_in (push e) f = push_in e f
  act_in (touch k d) f = touch_in k d f

  -- one after the other, up to the first that is refused
  unfoldable pub play_in : List Action → Change Q
  unfolding act_in and_go
  play_in [] f = gives f
  play_in (a ∷ rest) f = and_go (act_in a f) (play_in rest)

  -- all that `add` does with a candidate that it admits, in its order, and the new list of the candidate's edge, `self.on_edge[e]`
  unfoldable pub admit_in : Candidate → Change Q
  unfolding play_in and_go
  admit_in c f =
      let e = c.edge in
      let made = length f.wins in
      and_go (play_in (adding (edge_in (edge_data v triangles) e) (as_window c) (f.live e) made) f)
      (λ (g : FieldState Q.State). gives (with_live (put e (add_to better_of (tiny_of ((edge_data v triangles).len e)) (as_window c) (f.live e) made).live f.live) g))

  -- `add`: `if w.b1 - w.b0 <= tiny || w.src.lowest(w.b0, w.b1) > self.limit { return; }`
  unfoldable pub add_in : Candidate → Change Q
  unfolding admit_in
  add_in c f = if admits limit (edge_data v triangles).len c then admit_in c f else gives f

  unfoldable pub add_all_in : List Candidate → Change Q
  unfolding add_in and_go
  add_all_in [] f = gives f
  add_all_in (c ∷ cs) f = and_go (add_in c f) (add_all_in cs)

  -- ---- insertion
  -- `in_face.entry(g).or_default().push(x)`, 17 where there is no slot, or `add`
  unfoldable pub insert_in : Insert → Change Q
  unfolding add_all_in
  insert_in (Entry g x) f = if ltb (length f.entries) slots.entries then gives (with_entry (record { face = g.0; entry = x }) f) else refused (lack_number Entries)
  insert_in (Offer o) f = add_all_in (offer_list o) f

  unfoldable pub insert_all_in : List Insert → Change Q
  unfolding insert_in and_go
  insert_all_in [] f = gives f
  insert_all_in (x ∷ xs) f = and_go (insert_in x f) (insert_all_in xs)

  -- ---- the main loop
  -- `if vertex { let d = field.vertex[id]; .. }`, or `let w = field.wins[id]; if !w.alive || !w.queued { continue; } ..`
  unfoldable pub turn_in : Item → Float → FieldState Q.State → Option Spread
  turn_in (Item-as-Window id) key f =
      let w = get_or f.wins id.0 no_window in
      if w.alive && w.carried.queued then window_turn limit w else None
  turn_in (Item-as-Vertex k) key f = vertex_turn f.vertex k.0 key

  -- the queue is q then, and `field.wins[id].queued = false` of a live window that the event names
  abbrev pub without_event : Item → Q.State → FieldState Q.State → FieldState Q.State
  without_event x q f = record { wins = wins_claimed x f.wins; live = λ (e : ℕ). live_claimed x (f.live e); vertex = f.vertex; entries = f.entries; queue = q }

  -- `continue`, or `field.emitted[id] = d; field.emit(id, d)`, or `field.propagate(w)`
  unfoldable pub pass_in : Option Spread → Change Q
  unfolding add_all_in
  pass_in None f = gives f
  pass_in (Some c) f = add_all_in (spread_candidates v triangles c) (with_vertex (marked_vertex c f.vertex) f)

  -- one turn of `while let Some(Event(key, id, vertex)) = field.queue.pop()`: x is that event, and q is left of the queue
  abbrev pub event_in : Event → Q.State → Change Q
  event_in x q f = pass_in (turn_in x.item x.key f) (without_event x.item q f)

  -- the whole loop, of no more turns than so many, with `steps` counted so far: the field and `steps` at its end. 15 is tried before a pop: the turns are over and an event waits.
  unfoldable pub loop_in : ℕ → ℕ → FieldState Q.State → Reply (FieldState Q.State × ℕ)
  unfolding and_go taking
  loop_in zero steps f = taking (gives (f, steps)) (λ (x : Event) (q : Q.State). refused 15) (Q.take f.queue)
  loop_in (suc k) steps f = taking (gives (f, steps)) (λ (x : Event) (q : Q.State). and_go (event_in x q f) (loop_in k (suc steps))) (Q.take f.queue)

  -- the candidates that it offers to edges, in order, which demand 3 follows
  unfoldable pub loop_candidates : ℕ → FieldState Q.State → List Candidate
  unfolding or_none taking
  loop_candidates zero f = []
  loop_candidates (suc k) f =
      taking [] (λ (x : Event) (q : Q.State). turn_candidates limit v triangles (turn_in x.item x.key f) ++ or_none (loop_candidates k) (event_in x q f)) (Q.take f.queue)
