-- What a part of `add` does to the buffers: its actions, and the windows that it puts in the place of others on the chain of the edge. Definitions only.
use Rattle.std.specs.Prelude.{ℕ, ◌+◌, ◌*◌, ◌≤◌, ◌<◌, List, ◌++◌, ◌≢◌, ◌≡◌, length, get_or, drop, Float, Result, Ok, Err}
use Rattle.layout.specs.Layout.{words_per_edge, edge_head, edge_scratch, words_per_window, reals_per_window}
use Rattle.buffers.specs.declared.Lack.{Lack}
use Rattle.buffers.specs.Lack.{lack_number}
use Rattle.buffers.specs.Lent.{Lent, given, left}
use Rattle.buffers.specs.Slots.{slots_of}
use Rattle.windows.specs.declared.WindowRecord.{WindowRecord}
use Rattle.windows.specs.Windows.{capacity_of}
use Rattle.heap.specs.Queue.{Queue, queue}
use Rattle.chains.specs.Chains.{Links, links}
use Rattle.actions.specs.Actions as actions
use Rattle.actions.specs.Actions.{Action, Stock, wins_after, play}
use Rattle.cut_lists.specs.of_trim_model.Windows.{Window}
use Rattle.live_windows.specs.of_trim_state.State.{put}
use Rattle.live_windows.specs.Live.{HoldsWindows, last_link}
use Rattle.trim_split.specs.declared.Made.{Made}

-- what the buffers hold, how many windows and events there are, and the link behind which the chain goes on
pub record Snapshot : Type 0 where
  pub made : ℕ
  pub queued : ℕ
  pub last : ℕ
  pub links : Links
  pub reals : List Float
  pub queue : Queue
  pub vertex : List Float

abbrev pub snapshot : ℕ → ℕ → ℕ → Links → List Float → Queue → List Float → Snapshot
snapshot made queued last b f q vertex = record { made = made; queued = queued; last = last; links = b; reals = f; queue = q; vertex = vertex }

abbrev pub stock_of : Snapshot → Stock
stock_of p = actions.stock p.made p.queued p.queue p.vertex

-- a refusal by its number in 01, or where it ends
pub data End : Type 0 where
  stopped : ℕ → End
  at : Snapshot → End

-- what an answer says, with what the buffers hold then
abbrev pub made_end : Result Made Lack → Links → List Float → Queue → List Float → End
made_end (Err lack) b f q vertex = stopped (lack_number lack)
made_end (Ok m) b f q vertex = at (snapshot m.counts.made m.counts.queued m.last b f q vertex)

-- ---- of lent slices: the windows that there are slots for, a place at the call, and an end at the return
abbrev pub room_for : Lent ℕ → Lent Float → ℕ
room_for words reals = capacity_of (length (given words)) (length (given reals))

module _ (edges words : Lent ℕ) (reals keys : Lent Float) (events : Lent ℕ) where
  abbrev pub snapshot_before : ℕ → ℕ → ℕ → List Float → Snapshot
  snapshot_before made queued last vertex = snapshot made queued last (links (given edges) (given words)) (given reals) (queue (given keys) (given events)) vertex

  abbrev pub end_after : (Links → List Float → Queue → List Float → End) → List Float → End
  end_after end vertex = end (links (left edges) (left words)) (left reals) (queue (left keys) (left events)) vertex

-- so many windows are made, if it was not stopped
abbrev pub Counted : Result Made Lack → ℕ → Type 0
Counted (Err lack) made = Unit {0}
Counted (Ok m) made = m.counts.made ≡ made

-- a window of edge e can be made behind a link
pub record Ready (e made last : ℕ) (edges words : List ℕ) (reals : List Float) : Type 0 where
  pub fits : made ≤ capacity_of (length words) (length reals)
  pub linked : last ≤ made
  pub edge : e < slots_of (length edges) words_per_edge

-- what stays as it is from p to p': the slots past the windows that are made by then, and the edges' words but for the head of each edge at work and the link that it remembers
pub record Untouched (AtWork : ℕ → Type 0) (p p' : Snapshot) : Type 0 where
  pub more : p.made ≤ p'.made
  pub edges : (i : ℕ) → ((e : ℕ) → AtWork e → (i ≢ words_per_edge * e + edge_head) × (i ≢ words_per_edge * e + edge_scratch)) → get_or p'.links.edges i 0 ≡ get_or p.links.edges i 0
  pub words : drop (words_per_window * p'.made) p'.links.words ≡ drop (words_per_window * p'.made) p.links.words
  pub reals : drop (reals_per_window * p'.made) p'.reals ≡ drop (reals_per_window * p'.made) p.reals

-- the counts of the cut buffer and the window buffer, the limit, the flags of the vertices, and the edge
module _ (cuts windows : ℕ) (limit : Float) (flags : List ℕ) (e : ℕ) where
  -- from p to p' the actions are done, behind p's link the windows `new` stand for `old`, and all windows made are those that the actions leave
  pub record Performed (todo : List Action) (old new : List Window) (p p' : Snapshot) : Type 0 where
    pub fits : p'.made ≤ windows
    pub linked : p'.last ≤ p'.made
    pub plays : play cuts windows limit flags todo (stock_of p) ≡ actions.went (stock_of p')
    pub holds : (wins : List WindowRecord) (live : ℕ → List Window) (xs zs : List Window) → p.last ≡ last_link xs → HoldsWindows p.made wins p.links p.reals (put e (xs ++ (old ++ zs)) live) → HoldsWindows p'.made (wins_after todo wins) p'.links p'.reals (put e (xs ++ (new ++ zs)) live)
    pub untouched : Untouched (λ k. k ≡ e) p p'
    pub after : (xs : List Window) → p.last ≡ last_link xs → p'.last ≡ last_link (xs ++ new)

  abbrev pub Does : List Action → List Window → List Window → Snapshot → End → Type 0
  Does todo old new p (stopped n) = play cuts windows limit flags todo (stock_of p) ≡ actions.stopped n
  Does todo old new p (at p') = Performed todo old new p p'
