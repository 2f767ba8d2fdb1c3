-- What an operation, and a whole list of them, does to the lent buffers. Definitions only.
use Rattle.std.specs.Prelude.{ℕ, ◌+◌, ◌*◌, ◌≤◌, ◌<◌, min, List, ◌≡◌, length, get_or, replicate, Float, None, Some, Ok, Err, Result as Prelude·Result}
use Rattle.std.specs.Float.{nan}
use Rattle.layout.specs.Layout.{reals_per_vertex, words_per_edge, words_per_operation, reals_per_operation, words_per_ends, ends_low, ends_high, reals_per_len}
use Rattle.float64.specs.Scalar.{zero64}
use Rattle.buffers.specs.Slots.{slots_of}
use Rattle.windows.specs.Windows.{capacity_of}
use Rattle.heap.specs.Queue.{queue, popping, Popped}
use Rattle.trim_operations.specs.of_pop.Words.{words_after}
use Rattle.trim.specs.of_trim_model.Model.{Candidate}
use Rattle.chains.specs.Chains.{links}
use Rattle.actions.specs.Actions as actions
use Rattle.trim.specs.of_trim_state.State.{State, Result, stopped, went, EdgeData}
use Rattle.trim.specs.of_trim_state.Follows.{Follows}
use Rattle.trim.specs.of_trim_split.Running.{Snapshot, snapshot, Untouched}
use Rattle.trim.specs.Buffers.{Slices, slices}
use Rattle.trim.specs.of_cut_lists.Buffers.{Cuts}
use Rattle.cut_slots.specs.Slots.{cut_count}
use Rattle.trim_operations.specs.Operations.{Operation, touch, operations, candidates, DoublesOf}
use Rattle.trim_operations.specs.Run.{operate, Run, ran, ended, run_from, start_state}
use Rattle.trim_operations.specs.Demand3.{Demand3}
use Rattle.contents.specs.Contents.{heads_in, words_of, reals_of_all}
use Rattle.trim_operations.specs.Represents.{Represents}
use Rattle.trim_operations.specs.declared.OperationRefusal.{OperationRefusal}
use Rattle.trim_operations.specs.Represents.{refusal_number}
use Rattle.trim.specs.of_trim_split.declared.Counts.{Counts}
use Rattle.run_operations.specs.declared.Ended.{Ended}

-- ---- what is lent
-- of each edge its two ends, and its length
abbrev pub mesh_of : List ℕ → List Float → EdgeData
mesh_of ends lens = record { len = λ (e : ℕ). get_or lens (reals_per_len * e + 0) nan; low = λ (e : ℕ). get_or ends (words_per_ends * e + ends_low) 0; high = λ (e : ℕ). get_or ends (words_per_ends * e + ends_high) 0 }

-- the counts of the buffers, and what stays the same
pub record Setting : Type 0 where
  pub cuts : ℕ
  pub windows : ℕ
  pub limit : Float
  pub flags : List ℕ
  pub mesh : EdgeData
  pub edges : ℕ
  pub vertices : ℕ

abbrev pub setting_of : Cuts → Slices → Float → List ℕ → List ℕ → List Float → ℕ → Setting
setting_of c b limit flags ends lens m = record {
  cuts = length c.pts;
  windows = capacity_of (length b.words) (length b.reals);
  limit = limit;
  flags = flags;
  mesh = mesh_of ends lens;
  edges = m;
  vertices = slots_of (length b.vertex) reals_per_vertex;
}

-- so many windows are made and m edges counted, no more than the buffers have slots, and the cut buffers have as many slots each
pub record ReadyToRun (m made : ℕ) (b : Slices) (c : Cuts) : Type 0 where
  pub fits : made ≤ capacity_of (length b.words) (length b.reals)
  pub edges : m ≤ slots_of (length b.edges) words_per_edge
  pub outs : length c.out ≡ length c.pts + length c.pts
  pub keeps : length c.keep ≡ length c.pts + length c.pts
  pub nexts : length c.next ≡ length c.pts + length c.pts

-- ---- an operation
abbrev pub StandsIn : ℕ → ℕ → Slices → State → Type 0
StandsIn made queued b s = Represents made queued b.edges b.words b.reals b.keys b.events b.vertex s

-- with so many windows made and events queued
abbrev pub snapshot_in : ℕ → ℕ → Slices → Snapshot
snapshot_in made queued b = snapshot made queued 0 (links b.edges b.words) b.reals (queue b.keys b.events) b.vertex

-- of m edges, from p on
pub record Goes (m : ℕ) (p : Snapshot) (made queued : ℕ) (b : Slices) (result : Result) : Type 0 where
  pub state : State
  pub is : result ≡ went state
  pub stands : StandsIn made queued b state
  pub untouched : Untouched (λ e. e < m) p (snapshot_in made queued b)

-- the answer of an operation: how many windows are made and events queued, or why it is refused
abbrev pub Step : Type 0
Step = Prelude·Result Counts OperationRefusal

-- an answer says what the result is, and what there is then stands in the buffers
abbrev pub StepSays : ℕ → Snapshot → Step → Slices → Result → Type 0
StepSays m p (Err refusal) b result = result ≡ stopped (refusal_number refusal)
StepSays m p (Ok counts) b result = Goes m p counts.made counts.queued b result

abbrev pub StepWithin : ℕ → Step → Type 0
StepWithin windows (Err refusal) = Unit {0}
StepWithin windows (Ok counts) = counts.made ≤ windows

-- how many events a pop leaves of so many
unfoldable pub left_of : ℕ → Popped → ℕ
left_of queued None = queued
left_of queued (Some (x, n)) = n

pub record PopsFirst (made queued : ℕ) (words : List ℕ) (keys : List Float) (events : List ℕ) (r : ℕ) (words' : List ℕ) (keys' : List Float) (events' : List ℕ) : Type 0 where
  pub left : r ≡ left_of queued (popping (queue keys events) queued).0
  pub claims : words' ≡ words_after made words (popping (queue keys events) queued).0
  pub rest : queue keys' events' ≡ (popping (queue keys events) queued).1

-- a vertex is reached at a distance, whatever stands in the other buffers
pub record Touches (v : ℕ) (d limit : Float) (flags : List ℕ) (made queued : ℕ) (keys : List Float) (events : List ℕ) (vertex : List Float) (r : Step) (keys' : List Float) (events' : List ℕ) (vertex' : List Float) : Type 0 where
  pub fits : StepWithin made r
  pub says : (cuts windows : ℕ) (mesh : EdgeData) (m : ℕ) (edges words : List ℕ) (reals : List Float) (s : State) → Represents made queued edges words reals keys events vertex s
      → StepSays m (snapshot_in made queued (slices edges words reals keys events vertex)) r (slices edges words reals keys' events' vertex') (operate cuts windows limit flags mesh m (slots_of (length vertex) reals_per_vertex) (touch v d) s)

-- from buffers b to b', whatever state they stand for that follows the reference model
pub record Operated (g : Setting) (o : Operation) (made queued : ℕ) (b : Slices) (r : Step) (b' : Slices) : Type 0 where
  pub doubles : DoublesOf g.mesh.len o
  pub fits : StepWithin g.windows r
  pub says : (s : State) (cs : List Candidate) → StandsIn made queued b s → Follows g.limit g.mesh.len cs s.stock.made s.live
      → StepSays g.edges (snapshot_in made queued b) r b' (operate g.cuts g.windows g.limit g.flags g.mesh g.edges g.vertices o s)

-- the answer of a list: how many windows are made and events queued, or where it ends and why
abbrev pub Ran : Type 0
Ran = Prelude·Result Counts Ended

-- ---- a list of n operations, on empty edges, from p on
module _ (g : Setting) (ops : List ℕ) (args : List Float) (n : ℕ) (p : Snapshot) where
  -- what the first k of them come to
  abbrev pub run_of : ℕ → Run
  run_of k = run_from g.cuts g.windows g.limit g.flags g.mesh g.edges g.vertices 0 (operations ops args k) (start_state p.queue p.vertex)

  -- demand 3 for the first k operations
  abbrev pub Claim : ℕ → State → Type 0
  Claim k s = (e : ℕ) → Demand3 g.limit g.mesh.len (candidates (operations ops args k)) e (s.live e)

  -- they all go through, and the state stands in the buffers
  pub record Finishes (made queued : ℕ) (b : Slices) : Type 0 where
    pub state : State
    pub is : run_of n ≡ ran state
    pub fits : made ≤ g.windows
    pub stands : StandsIn made queued b state
    pub untouched : Untouched (λ e. e < g.edges) p (snapshot_in made queued b)
    pub demand3 : Claim n state

  -- the list ends before operation k, which is refused by a number; the state before it, of which demand 3 is said, is that of the shorter list
  pub record Ends (k number : ℕ) : Type 0 where
    pub state : State
    pub is : run_of n ≡ ended k number state
    pub shorter : run_of k ≡ ran state
    pub demand3 : Claim k state

  abbrev pub Runs : Ran → Slices → Type 0
  Runs (Ok counts) b = Finishes counts.made counts.queued b
  Runs (Err e) b = Ends e.at (refusal_number e.refusal)

-- ---- whole slices as they are lent: what they all have slots for
abbrev pub edge_count : List ℕ → List Float → List ℕ → ℕ
edge_count ends lens edges = min (min (slots_of (length ends) words_per_ends) (slots_of (length lens) reals_per_len)) (slots_of (length edges) words_per_edge)

abbrev pub operation_count : List ℕ → List Float → ℕ
operation_count ops args = min (slots_of (length ops) words_per_operation) (slots_of (length args) reals_per_operation)

abbrev pub lent_setting : Cuts → Slices → Float → List ℕ → List ℕ → List Float → Setting
lent_setting c b limit flags ends lens = record {
  cuts = cut_count c;
  windows = capacity_of (length b.words) (length b.reals);
  limit = limit;
  flags = flags;
  mesh = mesh_of ends lens;
  edges = edge_count ends lens b.edges;
  vertices = slots_of (length b.vertex) reals_per_vertex;
}

pub record ZeroSlices (b b' : Slices) : Type 0 where
  pub edges : b'.edges ≡ replicate (length b.edges) 0
  pub words : b'.words ≡ replicate (length b.words) 0
  pub reals : b'.reals ≡ replicate (length b.reals) zero64
  pub keys : b'.keys ≡ replicate (length b.keys) zero64
  pub events : b'.events ≡ replicate (length b.events) 0
  pub vertex : b'.vertex ≡ replicate (length b.vertex) zero64

pub record ZeroCuts (c c' : Cuts) : Type 0 where
  pub pts : c'.pts ≡ replicate (length c.pts) zero64
  pub out : c'.out ≡ replicate (length c.out) zero64
  pub keep : c'.keep ≡ replicate (length c.keep) zero64
  pub next : c'.next ≡ replicate (length c.next) zero64

-- edges and windows are zeroed first
abbrev pub cleared : Slices → Slices
cleared b = slices (replicate (length b.edges) 0) (replicate (length b.words) 0) (replicate (length b.reals) zero64) b.keys b.events b.vertex

-- ---- the whole: buffers b and c at entry, b' and c' at exit
module _ (limit : Float) (flags ends : List ℕ) (lens : List Float) (ops : List ℕ) (args : List Float) (b : Slices) (c : Cuts) where
  abbrev pub lent_setting_of : Setting
  lent_setting_of = lent_setting c b limit flags ends lens

  abbrev pub count : ℕ
  count = operation_count ops args

  abbrev pub lent_run_of : ℕ → Run
  lent_run_of k = run_of lent_setting_of ops args count (snapshot_in 0 0 b) k

  -- all operations went: each slice is a function of the state
  pub record WholeDone (made queued : ℕ) (b' : Slices) : Type 0 where
    pub state : State
    pub is : lent_run_of count ≡ ran state
    pub demand3 : Claim lent_setting_of ops args count (snapshot_in 0 0 b) count state
    pub edges : b'.edges ≡ heads_in state.live (length b.edges)
    pub words : b'.words ≡ words_of (length b.words) state.wins state.live
    pub reals : b'.reals ≡ reals_of_all (length b.reals) state.wins
    pub rest : state.stock ≡ actions.stock made queued (queue b'.keys b'.events) b'.vertex

  -- the list ends before operation k: the slices are zeroed
  pub record WholeEnded (k number : ℕ) (b' : Slices) : Type 0 where
    pub before : Ends lent_setting_of ops args count (snapshot_in 0 0 b) k number
    pub zeros : ZeroSlices b b'

  abbrev pub WholeRun : Ran → Slices → Type 0
  WholeRun (Ok counts) b' = WholeDone counts.made counts.queued b'
  WholeRun (Err e) b' = WholeEnded e.at (refusal_number e.refusal) b'

  pub record RunWhole (r : Ran) (b' : Slices) (c' : Cuts) : Type 0 where
    pub whole : WholeRun r b'
    pub cuts : ZeroCuts c c'
