-- `admit` and `add`, by what their callees ensure. Assumes nothing.
use Prim.Native.Nat.{ℕ, ◌+◌, ◌*◌, ◌≤◌, ◌<◌}
use mathlib.Core.Bool.{Bool, true, false, not, cond, ◌||◌}
use mathlib.Core.List.{List, [], ◌∷◌}
use mathlib.Core.Logic.{◌≢◌}
use mathlib.Core.Path.{◌≡◌, refl, sym, ap, ◌∙◌, subst}
use native.Mathlib.Omega.{arith}
use native.Mathlib.Nat.{le_trans}
use Rattle.std.specs.declared.result.Result.{Result}
use Rattle.std.specs.declared.result.Result.TheVariants.{Ok}
use lib.Dec.{T}
use lib.ListN.{length, get_or}
use lib.Seq.{get_or-set_other}
use lib.Ieee.{Float, lt, le}
use Rattle.layout.specs.Layout.{words_per_edge, edge_scratch}
use Rattle.buffers.specs.declared.Lack.{Lack}
use Rattle.buffers.specs.Lack.{lack_number}
use Rattle.source.specs.Distance.{lowest_of}
use Rattle.trim_visit.specs.of_better.Stretches.{Interval, interval, better_of}
use Rattle.trim_visit.specs.of_better.Buffers.{pairs}
use Rattle.heap.specs.Queue.{queue}
use Rattle.chains.specs.Chains.{links}
use Rattle.windows.specs.declared.Edge.{Edge}
use Rattle.windows.specs.declared.NewWindow.{NewWindow}
use Rattle.windows.specs.declared.WindowRecord.{WindowRecord}
use Rattle.actions.specs.Actions.{wins_after, Stock, play}
use Rattle.trim_visit.specs.of_trim_model.Intervals.{width, tiny_of, wide_of}
use Rattle.trim_visit.specs.of_trim_model.Windows.{Window, take_while}
use Rattle.trim_visit.specs.of_trim_model.Add.{passes, add_to}
use Rattle.trim_visit.specs.of_trim_model.Model.{Candidate, as_window, admits}
use Rattle.trim_visit.proofs.laws_of_trim_model.Ranks.{Nonneg}
use Rattle.trim_visit.proofs.laws_of_trim_model.Windows.{Wide}
use Rattle.trim_visit.proofs.laws_of_trim_model.Order.{Tidy}
use Rattle.trim_visit.specs.of_trim_state.State as state
use Rattle.trim_visit.specs.of_trim_state.State.{State, EdgeData, edge_in, put, finish, admit_of, add_of}
use Rattle.trim_visit.specs.of_trim_state.Trace.{adding}
use Rattle.trim_visit.proofs.laws_of_trim_state.Follows.{follows_tidy}
use Rattle.trim_visit.proofs.laws_of_trim_state.Seated.{proper_nonneg, admitted_wide}
use Rattle.trim_visit.specs.of_live_windows.Live.{HoldsWindows, Fronted, live_of, last_link}
use Rattle.trim_visit.specs.of_trim_split.Running.{Snapshot, stock_of, End, stopped, at, Untouched}
use Rattle.trim_visit.specs.of_trim_split.declared.Counts.{Counts}
use Rattle.trim_visit.specs.of_trim_split.declared.Made.{Made}
use Rattle.trim_visit.specs.of_cut_lists.Cut.{Sizes}
use Rattle.trim_visit.proofs.laws_of_trim_split.Untouched.{untouched_same, untouched_then}
use Rattle.trim_visit.proofs.laws_of_trim_split.Loops.{WindowSlices, window_slices, SameWindowSlices, same_windows, windows_of, snapshot_of, ReadyIn, ready_same}
use Rattle.std.specs.Prelude.{Result as Prelude·Result, Ok, Err}
use Rattle.trim_visit.specs.Visiting.{VisitsAll}
use Rattle.trim_keep.specs.Keeping.{Seats, MadeWithin}
use Rattle.trim.specs.Adding.{candidate_of, new_of, Given, SaysResult, Admits, AddsFrom, Unchanged}
use Rattle.trim.specs.Buffers.{Slices as Slices₁}
use Rattle.trim_visit.specs.of_cut_lists.Buffers.{Cuts}
use Rattle.trim.proofs.Front.{tidy_leads}
use Rattle.trim.proofs.Adding.{no_cuts, visit_stopped, all_seated}

-- what was done before is no more than what is done
says_from : (e : ℕ) (p p1 : Snapshot) (end : End) (r : state.Result) → Untouched (λ k. k ≡ e) p p1 → SaysResult e p1 end r → SaysResult e p end r
says_from e p p1 (stopped n) r u h = h
says_from e p p1 (at p2) r u h = record { wins = h.wins; live = h.live; is = h.is; holds = h.holds; untouched = untouched_then (λ k. k ≡ e) p p1 p2 u h.untouched }

module _ (cuts : ℕ) (limit : Float) (flags : List ℕ) (e : Edge) (x : WindowRecord) (made queued : ℕ) (s : WindowSlices) (vertex : List Float) where
  abbrev w : Window
  w = live_of x 0

  abbrev new : NewWindow
  new = new_of x

  abbrev c : Candidate
  c = candidate_of e new

  abbrev id : ℕ
  id = e.id.0

  abbrev p : Snapshot
  p = snapshot_of s made queued 0 vertex

  -- of the windows, the lists and the stock, what admit_of says of a state
  abbrev SaysOf : List WindowRecord → (ℕ → List Window) → End → Edge → Window → Stock → Type 0
  SaysOf wins live end edge u k =
      let todo = adding edge u (live id) k.made in
      SaysResult id p end (finish (wins_after todo wins) (put id (add_to better_of (tiny_of edge.len) u (live id) k.made).live live) (play cuts (windows_of s) limit flags todo k))

  abbrev Core : End → Type 0
  Core end = (wins : List WindowRecord) (live : ℕ → List Window) → HoldsWindows made wins p.links p.reals live → Nonneg (tiny_of e.len) → Wide (tiny_of e.len) w → Tidy (tiny_of e.len) (live id) → SaysOf wins live end e w (stock_of p)

  abbrev LowIs : Type 0
  LowIs = x.win.low ≡ lowest_of x.win.src x.win.b0 x.win.b1

  same_window : LowIs → w ≡ as_window c
  same_window h = ap (λ (y : Float). record { b0 = x.win.b0; b1 = x.win.b1; low = y; src = x.win.src; carried = x.carried; num = 0 }) h

  said : (mesh : EdgeData) (k : State) (end : End) → LowIs → Given cuts (windows_of s) limit flags e new mesh k p → SaysOf k.wins k.live end e w (stock_of p) → SaysResult id p end (admit_of cuts (windows_of s) limit flags mesh c k)
  unfolding admit_of
  said mesh k end low g h =
      subst (λ (st : Stock). SaysOf k.wins k.live end (edge_in mesh id) (as_window c) st) (sym g.same)
      (subst (λ (d : Edge). SaysOf k.wins k.live end d (as_window c) (stock_of p)) (sym g.edge)
      (subst (λ (u : Window). SaysOf k.wins k.live end e u (stock_of p)) (same_window low) h))

  admitted : (end : End) → Core end → LowIs → Admits cuts (windows_of s) limit flags e new p end
  admitted end core low mesh k g y =
      let long : mesh.len id ≡ e.len = ap (λ (d : Edge). d.len) g.edge in
      let wide : Wide (tiny_of e.len) (as_window c) = subst (λ (l : Float). Wide (tiny_of l) (as_window c)) long (admitted_wide limit mesh.len c (g.proper y) y) in
      said mesh k end low g (core k.wins k.live g.holds
      (subst (λ (l : Float). Nonneg (tiny_of l)) long (proper_nonneg c (g.proper y)))
      (subst (λ (u : Window). Wide (tiny_of e.len) u) (sym (same_window low)) wide)
      (subst (λ (l : Float). Tidy (tiny_of l) (k.live id)) long (follows_tidy g.follows id)))

  -- there is no room for a list of one
  pub admit_full : (tiny : Float) → cuts ≡ 0 → LowIs → tiny ≡ tiny_of e.len → Admits cuts (windows_of s) limit flags e new p (stopped 14)
  admit_full tiny z low is = admitted (stopped 14) (λ wins live h n W t. no_cuts cuts (windows_of s) limit flags e w made queued p.links p.reals p.queue vertex wins live h n W t z) low

  -- the walk along the front leaves s₁, where the edge remembers its end
  module _ (tiny : Float) (some : cuts ≢ 0) (before : ℕ) (edges₁ : List ℕ) (fronted : Fronted (passes tiny x.win.b0) made p.links p.reals edges₁ id before) (keep : List Float) (one : pairs 1 keep ≡ interval x.win.b0 x.win.b1 ∷ []) where
    abbrev s₁ : WindowSlices
    s₁ = window_slices edges₁ s.words s.reals s.keys s.events

    above : 0 < cuts
    above = omega (arith, some)

    module _ (wins : List WindowRecord) (live : ℕ → List Window) (hold : HoldsWindows made wins p.links p.reals live) where
      held : HoldsWindows made wins (links edges₁ s.words) s.reals live
      held = fronted.holds wins s.reals live hold

      link : tiny ≡ tiny_of e.len → Tidy (tiny_of e.len) (live id) → before ≡ last_link (take_while (passes (tiny_of e.len) x.win.b0) (live id))
      link is t = subst (λ (y : Float). before ≡ last_link (take_while (passes y x.win.b0) (live id))) is
          (fronted.last wins live hold (tidy_leads tiny x.win.b0 (live id) (subst (λ (y : Float). Tidy y (live id)) (sym is) t)))

    front_untouched : Untouched (λ k. k ≡ id) p (snapshot_of s₁ made queued before vertex)
    front_untouched = record { more = omega arith; edges = λ i h. ap (λ (l : List ℕ). get_or l i 0) fronted.edges ∙ get_or-set_other s.edges (words_per_edge * id + edge_scratch) i before 0 (h id refl).1; words = refl; reals = refl }

    abbrev Few : List Window → Type 0
    Few zs = length zs ≤ made

    -- a visit is stopped
    pub admit_stopped : (n : Lack) (keep' : List Float) → ((limit : Float) (flags : List ℕ) (vertex : List Float) → VisitsAll cuts (windows_of s) limit flags id tiny w Few (pairs 1 keep) (snapshot_of s₁ made queued before vertex) (Err n) (stopped (lack_number n)) keep')
        → LowIs → tiny ≡ tiny_of e.len → Admits cuts (windows_of s) limit flags e new p (stopped (lack_number n))
    admit_stopped n keep' d low is = admitted (stopped (lack_number n))
        (λ wins live h n0 W t. visit_stopped cuts (windows_of s) limit flags e w made queued (links edges₁ s.words) p.reals p.queue vertex wins live (held wins live h) n0 W t above before (link wins live h is t) n keep'
        (subst (λ (y : Float). VisitsAll cuts (windows_of s) limit flags id y w Few (interval x.win.b0 x.win.b1 ∷ []) (snapshot_of s₁ made queued before vertex) (Err n) (stopped (lack_number n)) keep') is
        (subst (λ (ks : List Interval). VisitsAll cuts (windows_of s) limit flags id tiny w Few ks (snapshot_of s₁ made queued before vertex) (Err n) (stopped (lack_number n)) keep') one
        (d limit flags vertex))))
        low

    -- the windows that are kept are seated, or that is stopped
    module _ (n : Counts) (last k : ℕ) (s' : WindowSlices) (keep' : List Float) (same : SameWindowSlices s s')
        (d : (limit : Float) (flags : List ℕ) (vertex : List Float) → VisitsAll cuts (windows_of s) limit flags id tiny w Few (pairs 1 keep) (snapshot_of s₁ made queued before vertex) (Ok (record { counts = n; last = last; kept = k })) (at (snapshot_of s' n.made n.queued last vertex)) keep') where
      pub admit_seated : (end : End) → ((cuts j : ℕ) → Seats cuts (windows_of s') limit flags e (live_of x j) (wide_of tiny (pairs k keep')) (snapshot_of s' n.made n.queued before vertex) end)
          → LowIs → tiny ≡ tiny_of e.len → Admits cuts (windows_of s) limit flags e new p end
      admit_seated end seats low is = admitted end
          (λ wins live h n0 W t. says_from id p (snapshot_of s₁ made queued before vertex) end _ front_untouched (all_seated cuts (windows_of s) limit flags e w made queued (links edges₁ s.words) p.reals p.queue vertex wins live (held wins live h) n0 W t above before (link wins live h is t) n last k (links s'.edges s'.words) s'.reals (queue s'.keys s'.events) keep'
          (subst (λ (y : Float). VisitsAll cuts (windows_of s) limit flags id y w Few (interval x.win.b0 x.win.b1 ∷ []) (snapshot_of s₁ made queued before vertex) (Ok (record { counts = n; last = last; kept = k })) (at (snapshot_of s' n.made n.queued last vertex)) keep') is
          (subst (λ (ks : List Interval). VisitsAll cuts (windows_of s) limit flags id tiny w Few ks (snapshot_of s₁ made queued before vertex) (Ok (record { counts = n; last = last; kept = k })) (at (snapshot_of s' n.made n.queued last vertex)) keep') one
          (d limit flags vertex)))
          end
          (subst (λ (y : Float). Seats cuts (windows_of s) limit flags e w (wide_of y (pairs k keep')) (snapshot_of s' n.made n.queued before vertex) end) is
          (subst (λ (j : ℕ). Seats cuts j limit flags e w (wide_of tiny (pairs k keep')) (snapshot_of s' n.made n.queued before vertex) end) (same_windows s s' same)
          (seats cuts 0)))))
          low

-- ---- whether it is admitted
module _ (cuts windows : ℕ) (limit : Float) (flags : List ℕ) (e : Edge) (new : NewWindow) (p : Snapshot) where
  abbrev c₁ : Candidate
  c₁ = candidate_of e new

  abbrev narrow : Float → Bool
  narrow l = le (width new.b0 new.b1) (tiny_of l)

  abbrev far : Bool
  far = lt limit (lowest_of new.src new.b0 new.b1)

  -- the mesh has the edge's length
  as_mesh : (mesh : EdgeData) (s : State) → Given cuts windows limit flags e new mesh s p → admits limit mesh.len c₁ ≡ not (narrow e.len || far)
  as_mesh mesh s g = ap (λ (d : Edge). not (narrow d.len || far)) g.edge

  skipped : (mesh : EdgeData) (s : State) → Given cuts windows limit flags e new mesh s p → (last : ℕ) → admits limit mesh.len c₁ ≡ false → SaysResult e.id.0 p (at (record { made = p.made; queued = p.queued; last = last; links = p.links; reals = p.reals; queue = p.queue; vertex = p.vertex })) (add_of cuts windows limit flags mesh c₁ s)
  unfolding add_of
  skipped mesh s g last h = record {
    wins = s.wins;
    live = s.live;
    is = ap (λ (d : Bool). cond d (admit_of cuts windows limit flags mesh c₁ s) (state.went s)) h ∙ ap (λ (k : Stock). state.went (record { wins = s.wins; live = s.live; stock = k })) g.same;
    holds = g.holds;
    untouched = untouched_same (λ k. k ≡ e.id.0) p p.queued last p.queue p.vertex;
  }

  -- it is too narrow
  pub add_narrow : narrow e.len ≡ true → AddsFrom cuts windows limit flags e new p (at p)
  add_narrow h mesh s g = skipped mesh s g p.last (as_mesh mesh s g ∙ ap (λ (d : Bool). not (d || far)) h)

  module _ (low : Float) (is : low ≡ lowest_of new.src new.b0 new.b1) (n : narrow e.len ≡ false) where
    passed : (b : Bool) → lt limit low ≡ b → not (narrow e.len || far) ≡ not b
    passed b h = ap (λ (d : Bool). not (d || far)) n ∙ ap not (ap (lt limit) (sym is) ∙ h)

    -- it is too far
    pub add_far : lt limit low ≡ true → AddsFrom cuts windows limit flags e new p (at p)
    add_far h mesh s g = skipped mesh s g p.last (as_mesh mesh s g ∙ passed true h)

    -- it is admitted
    pub add_admitted : lt limit low ≡ false → (end : End) → Admits cuts windows limit flags e new p end → AddsFrom cuts windows limit flags e new p end
    unfolding add_of
    add_admitted h end d mesh s g =
        let y : admits limit mesh.len c₁ ≡ true = as_mesh mesh s g ∙ passed false h in
        subst (λ (z : Bool). SaysResult e.id.0 p end (cond z (admit_of cuts windows limit flags mesh c₁ s) (state.went s))) (sym y) (d mesh s g (subst T (sym y) tt))

    -- so it is not one that changes nothing
    pub add_not_skipped : lt limit low ≡ false → (counts : Counts) (b : Slices₁) (x : Cuts) (r : Result Counts Lack) (b' : Slices₁) (x' : Cuts) → T (not (admits limit (λ k. e.len) (candidate_of e new))) → Unchanged counts b x r b' x'
    add_not_skipped h counts b x r b' x' z = absurd (subst (λ (d : Bool). T (not d)) (passed false h) z)

  -- the link where it ended is of no use any more
  pub add_went : (made queued last : ℕ) (s : WindowSlices) (vertex : List Float) → AddsFrom cuts windows limit flags e new p (at (snapshot_of s made queued last vertex)) → AddsFrom cuts windows limit flags e new p (at (snapshot_of s made queued 0 vertex))
  add_went made queued last s vertex d mesh k g = let l = d mesh k g in let u = l.untouched in record { wins = l.wins; live = l.live; is = l.is; holds = l.holds; untouched = record { more = u.more; edges = u.edges; words = u.words; reals = u.reals } }

-- nothing is changed
pub unchanged : (counts : Counts) (b : Slices₁) (x : Cuts) → Unchanged counts b x (Ok counts) b x
unchanged counts b x = record { answer = refl; slices = refl; cuts = refl }

-- ---- what the parts require

pub seat_ready : (e made before made' last k cuts : ℕ) (s s' : WindowSlices) → SameWindowSlices s s' → ReadyIn e made 0 s → before ≤ made → (made' ≤ windows_of s) × ((last ≤ made') × ((k ≤ cuts) × (made ≤ made'))) → ReadyIn e made' before s'
seat_ready e made before made' last k cuts s s' same r i h = ready_same e made' before s s' same r.edge h.0 (le_trans i h.1.1.1)

pub kept_fit : (size k : ℕ) (out keep next keep' : List Float) → Sizes size out keep next → length keep' ≡ length keep → k ≤ size → k + k ≤ length keep'
kept_fit size k out keep next keep' h same i = omega (arith, h.keeps, same, i)

pub bounded_in : (s s' : WindowSlices) (r : Prelude·Result Made Lack) → SameWindowSlices s s' → MadeWithin (windows_of s') r → MadeWithin (windows_of s) r
bounded_in s s' r same = subst (λ (n : ℕ). MadeWithin n r) (same_windows s s' same)
