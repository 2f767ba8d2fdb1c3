-- What a turn does to the buffers. Definitions only: first what is read of a popped event, then the mesh and the state in the buffers, then the contract.
use Rattle.std.specs.Prelude.{ℕ, ◌≤◌, ◌<◌, Bool, true, false, cond, List, ◌++◌, ◌≡◌, ltb, length, Float, Option, Some, None, Result, Ok, Err}
use Rattle.buffers.specs.declared.Lack.{Lack}
use Rattle.buffers.specs.Lack.{lack_number}
use Rattle.heap.specs.declared.Item.{Item}
use Rattle.heap.specs.declared.Item.TheVariants.{Window as Item-as-Window, Vertex as Item-as-Vertex}
use Rattle.heap.specs.Queue.{queue, popping}
use Rattle.windows.specs.Windows.{window_at, capacity_of}
use Rattle.topology.specs.Edges.{edges}
use Rattle.topology.specs.Frames.{len}
use Rattle.spread.specs.of_mesh_laws.Bounds.{EdgeLength}
use Rattle.spread.specs.of_mesh_readers.Held.{HoldsRound}
use Rattle.windows_there.specs.of_trim_model.Model.{Candidate}
use Rattle.windows_there.specs.of_trim_state.State as state
use Rattle.windows_there.specs.of_trim_state.State.{State, stopped, went}
use Rattle.spread.specs.of_cut_lists.Buffers.{Cuts}
use Rattle.spread.specs.of_trim_split.declared.Counts.{Counts}
use Rattle.spread.specs.of_trim_split.Running as running
use Rattle.spread.specs.of_trim_split.Running.{Snapshot, End, Untouched}
use Rattle.spread.specs.of_trim.Buffers.{Slices}
use Rattle.spread.specs.of_trim.Adding.{snapshot_at}
use Rattle.spread.specs.of_offers.Offers.{StandsFor}
use Rattle.spread.specs.of_offers.Walks.{MeshIn, edge_data}
use Rattle.windows_there.specs.There.{GoesInto, WindowsThere, EventsThere}
use Rattle.spread.specs.of_spread_offers.declared.Spread.{Spread}
use Rattle.field_step.specs.Step.{vertex_turn, window_turn, step_of, step_candidates, is_empty}

-- ---- as the buffers are read, once the event is popped: `pending` says whether its window was alive and queued; a vertex past the first n is passed over
unfoldable pub turn_at : Float → ℕ → List ℕ → List Float → List Float → Item → Float → Bool → Option Spread
turn_at limit n words reals vertex (Item-as-Window id) key pending = cond pending (window_turn limit (window_at words reals id.0)) None
turn_at limit n words reals vertex (Item-as-Vertex k) key pending = cond (ltb k.0 n) (vertex_turn vertex k.0 key) None

-- a window that is pending has a slot
unfoldable pub SlotFor : ℕ → Item → Bool → Type 0
SlotFor windows (Item-as-Window id) pending = pending ≡ true → id.0 < windows
SlotFor windows (Item-as-Vertex k) pending = Unit {0}

abbrev pub stepped_of : Result Counts Lack → Result (Option Counts) Lack
stepped_of (Err lack) = Err lack
stepped_of (Ok c) = Ok (Some c)

-- ---- the mesh in its buffers, whose edges are as long as a checked one's; it has n vertices, and `buffer` has its triangles
pub record FieldMesh (v : List Float) (triangles : List ℕ) (n : ℕ) (buffer edge_words : List ℕ) (edge_reals : List Float) (triangle_words : List ℕ) (triangleReals : List Float) (vertex_words round : List ℕ) : Type 0 where
  pub mesh : MeshIn v triangles n edge_words edge_reals triangle_words triangleReals
  pub same : buffer ≡ triangles
  pub rounds : HoldsRound triangles n vertex_words round
  pub long : (e : ℕ) → e < length (edges triangles) → EdgeLength (len v triangles e)

-- ---- the state in its buffers
module _ (limit : Float) (v : List Float) (triangles : List ℕ) (n : ℕ) where
  -- s follows the model with the candidates so far, all its windows are the mesh's, and so are the vertices that its events name
  pub record FieldStands (past : List Candidate) (s : State) (p : Snapshot) : Type 0 where
    pub stands : StandsFor limit (edge_data v triangles) past s p
    pub there : WindowsThere (GoesInto triangles) s
    pub events : EventsThere n s

  -- from p₀ to p the buffers have come to hold a result
  pub record FieldComesTo (past : List Candidate) (p₀ p : Snapshot) (r : state.Result) : Type 0 where
    pub state : State
    pub is : r ≡ went state
    pub field : FieldStands past state p
    pub untouched : Untouched (λ e. Unit {0}) p₀ p

  abbrev pub FieldEnds : List Candidate → Snapshot → End → state.Result → Type 0
  FieldEnds past p₀ (running.stopped k) r = r ≡ stopped k
  FieldEnds past p₀ (running.at p) r = FieldComesTo past p₀ p r

-- ---- the contract: buffers b and c at the call, b' at the return
-- so many windows and events there are then
abbrev pub counts_after : Counts → Result (Option Counts) Lack → Counts
counts_after counts (Ok None) = counts
counts_after counts (Err lack) = counts
counts_after counts (Ok (Some c)) = c

abbrev pub stepped_end : Counts → Result (Option Counts) Lack → Slices → End
stepped_end counts (Ok None) b = running.at (snapshot_at counts b)
stepped_end counts (Err lack) b = running.stopped (lack_number lack)
stepped_end counts (Ok (Some c)) b = running.at (snapshot_at c b)

abbrev pub is_idle : Result (Option Counts) Lack → Bool
is_idle (Ok None) = true
is_idle (Err lack) = false
is_idle (Ok (Some c)) = false

pub record StepsOnce (limit : Float) (n : ℕ) (v : List Float) (buffer vertex_words round : List ℕ) (edge_reals : List Float) (triangle_words : List ℕ) (triangleReals : List Float)
    (counts : Counts) (b : Slices) (c : Cuts) (r : Result (Option Counts) Lack) (b' : Slices) : Type 0 where
  -- no more windows are made than the buffer has slots for
  pub bounded : (counts_after counts r).made ≤ capacity_of (length b.words) (length b.reals)
  -- it is idle where the queue is empty, and only there
  pub idle : is_idle r ≡ is_empty (popping (queue b.keys b.events) counts.queued).0
  -- the buffers come to hold the state after one turn, of every mesh and state that they hold; or what there is no slot for is told
  pub steps : (triangles : List ℕ) → FieldMesh v triangles n buffer b.edges edge_reals triangle_words triangleReals vertex_words round
      → (past : List Candidate) (s : State) → FieldStands limit v triangles n past s (snapshot_at counts b)
      → FieldEnds limit v triangles n (past ++ step_candidates limit v triangles s) (snapshot_at counts b) (stepped_end counts r b')
      (step_of (length c.pts) (capacity_of (length b.words) (length b.reals)) limit vertex_words v triangles s)
