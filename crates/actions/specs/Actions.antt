-- What the Rust's `add` does beside the list of its edge, one action after the other in the Rust's order, and what stops it. Definitions only.
use Rattle.std.specs.Prelude.{ℕ, suc, ◌+◌, ◌*◌, ◌&&◌, ltb, leb, length, get_or, set, Float, if◌then◌else◌, Err, Ok}
use Rattle.std.proofs.Math.Bool.{cond}
use mathlib.Core.List.{List, [], ◌∷◌, ◌++◌}
use Rattle.std.proofs.Math.Dec.{eqb}
use Rattle.std.specs.Float.{nan}
use Rattle.std.specs.Float.Ieee.{lt, le}
use Rattle.layout.specs.Layout.{words_per_vertex, vertex_flag, reals_per_vertex, vertex_distance, vertex_emitted}
use Rattle.buffers.specs.declared.Lack.TheVariants.{Windows, Cuts}
use Rattle.buffers.specs.Lack.{lack_number}
use Rattle.windows.specs.declared.WindowRecord.{WindowRecord}
use Rattle.windows.specs.Windows.{trimmed, dead, adjust}
use Rattle.heap.specs.declared.Event.{Event}
use Rattle.heap.specs.declared.Item.TheVariants.{Vertex}
use Rattle.heap.specs.Queue.{Queue, pushing, Pushed}

pub data Action : Type 0 where
  list : ℕ → Action  -- one of the lists `pts`, `out`, `keep`, `next` and `pieces` comes to so many entries
  make : WindowRecord → Action  -- `wins.push`
  trim : ℕ → Float → Float → Float → Action  -- a window's ends and lowest value change
  kill : ℕ → Action  -- a window is no more alive
  push : Event → Action  -- `queue.push`
  touch : ℕ → Float → Action  -- `touch` of a vertex at a distance

-- how many windows are made, the queue with its number of events, and the Rust's `vertex` and `emitted`, two numbers for each vertex
pub record Stock : Type 0 where
  pub made : ℕ
  pub queued : ℕ
  pub queue : Queue
  pub vertex : List Float

-- a refusal by its number in 01, or what there is afterwards
pub data Outcome : Type 0 where
  stopped : ℕ → Outcome
  went : Stock → Outcome

abbrev pub stock : ℕ → ℕ → Queue → List Float → Stock
stock made queued queue vertex = record { made = made; queued = queued; queue = queue; vertex = vertex }

-- the Rust's `vertex[v]`, of a vertex whose two numbers are there, and with d in its place
abbrev pub distance_of : List Float → ℕ → Float
distance_of vertex v = cond (ltb (reals_per_vertex * v + vertex_emitted) (length vertex)) (get_or vertex (reals_per_vertex * v + vertex_distance) nan) nan

abbrev pub with_distance : List Float → ℕ → Float → List Float
with_distance vertex v d = set vertex (reals_per_vertex * v + vertex_distance) d

-- what a push answers
unfoldable pub queueing : ℕ → List Float → Pushed × Queue → Outcome
queueing made vertex (Err l, q) = stopped (lack_number l)
queueing made vertex (Ok n, q) = went (stock made n q vertex)

unfoldable pub and_then : Outcome → (Stock → Outcome) → Outcome
and_then (stopped n) next = stopped n
and_then (went s) next = next s

-- ---- the Rust's `wins`, all windows made in the order of their numbers, dead ones too. Of a link only the chains tell: here it is 0.
unfoldable pub wins_with : Action → List WindowRecord → List WindowRecord
wins_with (list n) wins = wins
wins_with (make x) wins = wins ++ (x ∷ [])
wins_with (trim i b0 b1 low) wins = adjust i (λ x. trimmed x b0 b1 low) wins
wins_with (kill i) wins = adjust i dead wins
wins_with (push e) wins = wins
wins_with (touch v d) wins = wins

unfoldable pub wins_after : List Action → List WindowRecord → List WindowRecord
unfolding wins_with
wins_after [] wins = wins
wins_after (a ∷ rest) wins = wins_after rest (wins_with a wins)

-- ---- the cut buffer's count and the window buffer's, the limit, and the vertices' words: a vertex's flag is 1 where it passes distances round itself
module _ (cuts windows : ℕ) (limit : Float) (vertex_words : List ℕ) where
  unfoldable pub act : Action → Stock → Outcome
  unfolding queueing
  act (list n) s = cond (leb n cuts) (went s) (stopped (lack_number Cuts))
  act (make x) s = cond (ltb s.made windows) (went (stock (suc s.made) s.queued s.queue s.vertex)) (stopped (lack_number Windows))
  act (trim i b0 b1 low) s = went s
  act (kill i) s = went s
  act (push e) s = queueing s.made s.vertex (pushing s.queue s.queued e)
  act (touch v d) s =
      if lt d (distance_of s.vertex v) then
      (let vertex = with_distance s.vertex v d in
      if eqb (get_or vertex_words (words_per_vertex * v + vertex_flag) 0) 1 && le d limit then
      queueing s.made vertex (pushing s.queue s.queued (record { key = d; item = Vertex (record { 0 = v }) }))
      else went (stock s.made s.queued s.queue vertex))
      else went s

  -- one after the other, up to the first that is stopped
  unfoldable pub play : List Action → Stock → Outcome
  unfolding act and_then
  play [] s = went s
  play (a ∷ rest) s = and_then (act a s) (play rest)
