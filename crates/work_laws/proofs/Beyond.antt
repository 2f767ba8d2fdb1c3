-- Additions, marks and the last pass write to no vertex past the mesh's: beyond_add, beyond_mark, beyond_lowered. Assumes nothing.
use Prim.Native.Nat.{ℕ, zero, suc, ◌+◌, ◌*◌, ◌≤◌, ◌<◌}
use native.Mathlib.Omega.{arith}
use mathlib.Core.Bool.{Bool, cond, ◌&&◌}
use mathlib.Core.List.{List, [], ◌∷◌, map}
use mathlib.Core.Path.{◌≡◌, ◌∙◌}
use lib.Dec.{eqb, leb, ltb}
use lib.ListN.{get_or, set}
use lib.Seq.{get_or-set_other}
use lib.Ieee.{Float, lt, le}
use Rattle.layout.specs.Layout.{reals_per_vertex}
use Rattle.float64.specs.Scalar.{zero64, min_of}
use Rattle.source.specs.declared.Win.{Win}
use Rattle.source.specs.Distance.{eval_of}
use Rattle.last_pass.specs.of_better.Claim.{All}
use Rattle.last_pass.specs.of_better.Stretches.{better_of}
use Rattle.heap.specs.declared.Event.{Event}
use Rattle.heap.specs.declared.Item.TheVariants.{Vertex as Item-as-Vertex}
use Rattle.std.specs.Prelude.{Err, Ok}
use Rattle.heap.specs.Queue.{Queue, pushing, Pushed}
use Rattle.windows.specs.declared.Edge.{Edge}
use Rattle.windows.specs.declared.WindowRecord.{WindowRecord}
use Rattle.actions.specs.Actions as actions
use Rattle.actions.specs.Actions.{Action, list, make, trim, kill, push, touch, wins_after, Stock, stock, Outcome, distance_of, with_distance, queueing, and_then, act, play}
use Rattle.last_pass.specs.of_trim_model.Intervals.{tiny_of}
use Rattle.last_pass.specs.of_trim_model.Windows.{Window}
use Rattle.last_pass.specs.of_trim_model.Add.{add_to}
use Rattle.last_pass.specs.of_trim_model.Model.{Candidate, as_window, admits}
use Rattle.last_pass.proofs.laws_of_trim_model.Ranks.{by_cases}
use Rattle.last_pass.specs.of_trim_state.Trace.{win_of, adding}
use Rattle.last_pass.specs.of_trim_state.State as state
use Rattle.last_pass.specs.of_trim_state.State.{State, EdgeData, edge_in, put, finish, admit_of, add_of}
use Rattle.field_work.specs.of_spread_offers.declared.Spread.{Spread}
use Rattle.field_work.specs.of_spread_offers.declared.Spread.TheVariants.{Window as Spread-as-Window, Vertex as Spread-as-Vertex}
use Rattle.field_work.specs.of_spread_offers.Spreading.{SpreadOf}
use Rattle.field_work.specs.of_windows_there.There.{LiveThere, EndsThere}
use Rattle.field_work.proofs.laws_of_windows_there.Added.{MakesThere, adding_there}
use Rattle.field_work.specs.of_field_step.Step.{marked_vertex}
use Rattle.last_pass.specs.Lowered.{lowered, lowered_by, lowered_edge, lowered_all}
use Rattle.work_laws.specs.Kept.{EndsIn}

module _ (n : ℕ) where
  -- zeros past n vertices
  abbrev pub Beyond : List Float → Type 0
  Beyond vertex = (p : ℕ) → reals_per_vertex * n ≤ p → get_or vertex p zero64 ≡ zero64

  set_beyond : (vertex : List Float) → Beyond vertex → (i : ℕ) → i < reals_per_vertex * n → (d : Float) → Beyond (set vertex i d)
  set_beyond vertex h i l d p q = get_or-set_other vertex i p d zero64 (λ z. omega (arith, l, q, z)) ∙ h p q

  -- ---- actions
  abbrev Quiet : Outcome → Type 0
  Quiet (actions.stopped k) = Unit {0}
  Quiet (actions.went k) = Beyond k.vertex

  abbrev Fine : Action → Type 0
  Fine = MakesThere (λ e g. Unit {0}) (λ k. k < n)

  queueing_beyond : (made : ℕ) (vertex : List Float) (x : Pushed × Queue) → Beyond vertex → Quiet (queueing made vertex x)
  unfolding queueing
  queueing_beyond made vertex (Err l, q) h = tt
  queueing_beyond made vertex (Ok m, q) h = h

  module _ (cuts windows : ℕ) (limit : Float) (flags : List ℕ) where
    act_beyond : (a : Action) → Fine a → (k : Stock) → Beyond k.vertex → Quiet (act cuts windows limit flags a k)
    unfolding act
    act_beyond (list m) f k h = by_cases (λ (b : Bool). Quiet (cond b (actions.went k) (actions.stopped 14))) (leb m cuts) (λ y. h) (λ y. tt)
    act_beyond (make x) f k h = by_cases (λ (b : Bool). Quiet (cond b (actions.went (stock (suc k.made) k.queued k.queue k.vertex)) (actions.stopped 12))) (ltb k.made windows) (λ y. h) (λ y. tt)
    act_beyond (trim i b0 b1 low) f k h = h
    act_beyond (kill i) f k h = h
    act_beyond (push e) f k h = queueing_beyond k.made k.vertex (pushing k.queue k.queued e) h
    act_beyond (touch v d) f k h =
        let vertex = with_distance k.vertex v d in
        let quiet : Beyond vertex = set_beyond k.vertex h (2 * v + 0) (omega (arith, f)) d in
        let e : Event = record { key = d; item = Item-as-Vertex (record { 0 = v }) } in
        let q = queueing k.made vertex (pushing k.queue k.queued e) in
        let r = actions.went (stock k.made k.queued k.queue vertex) in
        by_cases (λ (b : Bool). Quiet (cond b (cond (eqb (get_or flags (3 * v + 2) 0) 1 && le d limit) q r) (actions.went k))) (lt d (distance_of k.vertex v))
        (λ y. by_cases (λ (b : Bool). Quiet (cond b q r)) (eqb (get_or flags (3 * v + 2) 0) 1 && le d limit) (λ z. queueing_beyond k.made vertex (pushing k.queue k.queued e) quiet) (λ z. quiet))
        (λ y. h)

    then_beyond : (o : Outcome) (f : Stock → Outcome) → Quiet o → ((k : Stock) → Beyond k.vertex → Quiet (f k)) → Quiet (and_then o f)
    unfolding and_then
    then_beyond (actions.stopped k) f h g = tt
    then_beyond (actions.went k) f h g = g k h

    play_beyond : (todo : List Action) → All Fine todo → (k : Stock) → Beyond k.vertex → Quiet (play cuts windows limit flags todo k)
    unfolding play
    play_beyond [] f k h = h
    play_beyond (a ∷ rest) f k h = then_beyond (act cuts windows limit flags a k) (play cuts windows limit flags rest) (act_beyond a f.0 k h) (play_beyond rest f.1)

    any : (e : ℕ) (us : List Window) → All (LiveThere (λ f g. Unit {0}) e) us
    any e [] = tt
    any e (u ∷ us) = (tt, any e us)

    -- ---- an addition
    module _ (mesh : EdgeData) (c : Candidate) (ends : EndsThere n mesh c) (s : State) (h : Beyond s.stock.vertex) where
      abbrev Then : State → Type 0
      Then t = Beyond t.stock.vertex

      finish_beyond : (wins : List WindowRecord) (live : ℕ → List Window) (o : Outcome) → Quiet o → EndsIn Then (finish wins live o)
      unfolding finish
      finish_beyond wins live (actions.stopped k) q = tt
      finish_beyond wins live (actions.went k) q = q

      admit_beyond : EndsIn Then (admit_of cuts windows limit flags mesh c s)
      unfolding admit_of
      admit_beyond =
          let e = c.edge in
          let todo = adding (edge_in mesh e) (as_window c) (s.live e) s.stock.made in
          finish_beyond (wins_after todo s.wins) (put e (add_to better_of (tiny_of (mesh.len e)) (as_window c) (s.live e) s.stock.made).live s.live) (play cuts windows limit flags todo s.stock)
          (play_beyond todo (adding_there (λ f g. Unit {0}) (λ k. k < n) (edge_in mesh e) ends.0 ends.1 (as_window c) tt (s.live e) s.stock.made (any e (s.live e))) s.stock h)

      pub beyond_add : EndsIn Then (add_of cuts windows limit flags mesh c s)
      unfolding add_of
      beyond_add = by_cases (λ (b : Bool). EndsIn Then (cond b (admit_of cuts windows limit flags mesh c s) (state.went s))) (admits limit mesh.len c) (λ y. admit_beyond) (λ y. h)

  -- ---- a mark
  pub beyond_mark : (triangles : List ℕ) (x : Spread) → SpreadOf triangles n x → (vertex : List Float) → Beyond vertex → Beyond (marked_vertex x vertex)
  unfolding marked_vertex
  beyond_mark triangles (Spread-as-Window e g b0 b1 src) of vertex h = h
  beyond_mark triangles (Spread-as-Vertex k d) of vertex h = set_beyond vertex h (2 * k.0 + 1) (omega (arith, of)) d

  -- ---- the last pass
  lower_beyond : (e : Edge) → e.a.0 < n → e.b.0 < n → (ws : List Win) (vertex : List Float) → Beyond vertex → Beyond (lowered_edge e ws vertex)
  unfolding lowered_edge lowered_by
  lower_beyond e a b [] vertex h = h
  lower_beyond e a b (w ∷ ws) vertex h =
      let da = eval_of w zero64 zero64 in
      let db = eval_of w e.len zero64 in
      let v1 = lowered vertex e.a.0 da in
      let h1 : Beyond v1 = set_beyond vertex h (2 * e.a.0 + 0) (omega (arith, a)) (min_of (distance_of vertex e.a.0) da) in
      lower_beyond e a b ws (lowered v1 e.b.0 db) (set_beyond v1 h1 (2 * e.b.0 + 0) (omega (arith, b)) (min_of (distance_of v1 e.b.0) db))

  pub beyond_lowered : (count : ℕ) (mesh : EdgeData) → ((e : ℕ) → e < count → (mesh.low e < n) × (mesh.high e < n)) → (live : ℕ → List Window) (vertex : List Float) → Beyond vertex → Beyond (lowered_all count mesh live vertex)
  unfolding lowered_all
  beyond_lowered zero mesh ends live vertex h = h
  beyond_lowered (suc k) mesh ends live vertex h =
      let z = ends k (omega arith) in
      lower_beyond (edge_in mesh k) z.0 z.1 (map win_of (live k)) (lowered_all k mesh live vertex) (beyond_lowered k mesh (λ e l. ends e (omega (arith, l))) live vertex h)
