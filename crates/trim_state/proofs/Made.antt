-- How many windows an addition makes: as many as its actions say, and so as many as the reference model counts; and an addition keeps the live lists following the model. Assumes nothing.
use Prim.Native.Nat.{ℕ, suc, ◌+◌, pred, ◌*◌}
use mathlib.Core.Bool.{Bool, not, cond, ◌&&◌}
use mathlib.Core.List.{List, [], ◌∷◌, ◌++◌}
use mathlib.Core.Path.{◌≡◌, refl, sym, subst}
use native.Mathlib.Omega.{arith}
use lib.Dec.{T, ltb, leb, eqb}
use lib.ListN.{length, get_or}
use lib.Ieee.{Float, lt, le}
use Rattle.float64.specs.Scalar.{zero64}
use Rattle.float64.specs.Notation.{◌⊖◌, ◌⊗◌}
use Rattle.source.specs.Distance.{eval_of, lowest_of}
use Rattle.better.specs.Points.{pts_of, walk_of}
use Rattle.better.specs.Stretches.{Interval, better_of}
use Rattle.std.specs.Prelude.{Err, Ok}
use Rattle.heap.specs.declared.Item.TheVariants.{Vertex}
use Rattle.heap.specs.Queue.{Queue, pushing, Pushed}
use Rattle.windows.specs.declared.Edge.{Edge}
use Rattle.windows.specs.declared.WindowRecord.{WindowRecord}
use Rattle.actions.specs.Actions.{Action, list, make, trim, kill, push, touch, wins_after, Stock, stock, Outcome, stopped, went, distance_of, with_distance, queueing, and_then, act, play}
use Rattle.trim_model.specs.Intervals.{width, tiny_of, push_if, next, pieces, wide_of}
use Rattle.trim_model.specs.Windows.{Window, part}
use Rattle.trim_model.specs.Add.{Walk, run, shared_lo, shared_hi, start, untouched, meet, visit, visits, add_to}
use Rattle.trim_model.specs.Model.{Candidate, as_window, admits}
use Rattle.trim_model.specs.Claim.{AdmittedProper}
use Rattle.trim_model.proofs.Ranks.{by_cases}
use Rattle.trim_state.specs.Trace.{window_event, making, makings, splitting, losing, visiting, visitings, near, win_of, touching, keeping, adding}
use Rattle.trim_state.specs.State as state
use Rattle.trim_state.specs.State.{State, EdgeData, Result, edge_in, put, finish, admit_of, add_of}
use Rattle.trim_state.specs.Follows.{Follows}
use Rattle.trim_state.proofs.Follows.{follows_add, follows_skip}

-- how many windows an action makes, and a list of them
abbrev pub one : Action → ℕ
one (list n) = 0
one (make x) = 1
one (trim i b0 b1 low) = 0
one (kill i) = 0
one (push e) = 0
one (touch v d) = 0

unfoldable makes : List Action → ℕ
makes [] = 0
makes (a ∷ rest) = one a + makes rest

-- if it went through, m windows are made
abbrev pub Made : ℕ → Outcome → Type 0
Made m (stopped n) = Unit {0}
Made m (went s) = s.made ≡ m

queueing_made : (m : ℕ) (v : List Float) (x : Pushed × Queue) → Made m (queueing m v x)
unfolding queueing
queueing_made m v (Err l, q) = tt
queueing_made m v (Ok n, q) = refl

then_made : (m n : ℕ) (o : Outcome) (f : Stock → Outcome) → Made m o → ((s : Stock) → s.made ≡ m → Made n (f s)) → Made n (and_then o f)
unfolding and_then
then_made m n (stopped k) f h g = tt
then_made m n (went s) f h g = g s h

module _ (cuts windows : ℕ) (limit : Float) (flags : List ℕ) where
  pub act_made : (a : Action) (s : Stock) → Made (s.made + one a) (act cuts windows limit flags a s)
  unfolding act
  act_made (list n) s = by_cases (λ (b : Bool). Made (s.made + 0) (cond b (went s) (stopped 14))) (leb n cuts) (λ y. omega arith) (λ n. tt)
  act_made (make x) s = by_cases (λ (b : Bool). Made (s.made + 1) (cond b (went (stock (suc s.made) s.queued s.queue s.vertex)) (stopped 12))) (ltb s.made windows) (λ y. omega arith) (λ n. tt)
  act_made (trim i b0 b1 low) s = omega arith
  act_made (kill i) s = omega arith
  act_made (push e) s = none (queueing s.made s.vertex (pushing s.queue s.queued e)) (queueing_made s.made s.vertex (pushing s.queue s.queued e))
    where
      none : (o : Outcome) → Made s.made o → Made (s.made + 0) o
      none o h = subst (λ (n : ℕ). Made n o) (omega arith) h
  act_made (touch v d) s =
      let vertex = with_distance s.vertex v d in
      let q = queueing s.made vertex (pushing s.queue s.queued (record { key = d; item = Vertex (record { 0 = v }) })) in
      let r = went (stock s.made s.queued s.queue vertex) in
      by_cases (λ (b : Bool). Made (s.made + 0) (cond b (cond (eqb (get_or flags (3 * v + 2) 0) 1 && le d limit) q r) (went s))) (lt d (distance_of s.vertex v))
      (λ y. by_cases (λ (b : Bool). Made (s.made + 0) (cond b q r)) (eqb (get_or flags (3 * v + 2) 0) 1 && le d limit) (λ z. subst (λ (n : ℕ). Made n q) (omega arith) (queueing_made s.made vertex (pushing s.queue s.queued (record { key = d; item = Vertex (record { 0 = v }) })))) (λ z. omega arith))
      (λ n. omega arith)

  play_made : (xs : List Action) (s : Stock) → Made (s.made + makes xs) (play cuts windows limit flags xs s)
  unfolding play makes
  play_made [] s = omega arith
  play_made (a ∷ xs) s = then_made (s.made + one a) (s.made + (one a + makes xs)) (act cuts windows limit flags a s) (play cuts windows limit flags xs) (act_made a s)
      (λ t e. let f : t.made + makes xs ≡ s.made + (one a + makes xs) = omega (arith, e) in subst (λ (n : ℕ). Made n (play cuts windows limit flags xs t)) f (play_made xs t))

-- ---- how many an addition's actions make
makes_append : (xs ys : List Action) → makes (xs ++ ys) ≡ makes xs + makes ys
unfolding makes
makes_append [] ys = omega arith
makes_append (a ∷ xs) ys = omega (arith, makes_append xs ys)

making_makes : (e : ℕ) (u : Window) (n : ℕ) (p : Interval) → makes (making e u n p) ≡ 1
unfolding makes
making_makes e u n p = by_cases (λ (b : Bool). 1 + makes (push_if b (push (window_event (lowest_of u.src p.from p.to) n))) ≡ 1) u.carried.queued (λ y. refl) (λ y. refl)

makings_makes : (e : ℕ) (u : Window) (n : ℕ) (ps : List Interval) → makes (makings e u n ps) ≡ length ps
unfolding makes makings
makings_makes e u n [] = refl
makings_makes e u n (p ∷ ps) = omega (arith, makes_append (making e u n p) (makings e u (suc n) ps), making_makes e u n p, makings_makes e u (suc n) ps)

splitting_makes : (e : ℕ) (u : Window) (n : ℕ) (ps : List Interval) → makes (splitting e u n ps) ≡ pred (length ps)
unfolding makes splitting
splitting_makes e u n [] = refl
splitting_makes e u n (p ∷ ps) = omega (arith, makings_makes e u n ps)

losing_makes : (e : ℕ) (t : Float) (u : Window) (lo hi : Float) (gs : List Interval) (s : Walk) → s.made + makes (losing e t u s.made gs) ≡ (meet t u lo hi gs s).made
unfolding makes losing meet
losing_makes e t u lo hi [] s = omega arith
losing_makes e t u lo hi (g ∷ gs) s = omega (arith, splitting_makes e u s.made (pieces t u.b0 u.b1 (g ∷ gs)))

visiting_makes : (e : ℕ) (t : Float) (w u : Window) (s : Walk) → s.made + makes (visiting e t w u s) ≡ (visit better_of t w u s).made
unfolding makes visiting visit
visiting_makes e t w u s =
    let lo = shared_lo w u in
    let hi = shared_hi w u in
    let better = better_of w.src u.src lo hi in
    let more = list (length (walk_of w.src u.src (pts_of w.src u.src lo hi))) ∷ list (length better) ∷ list (length (next lo hi better s.keep)) ∷ losing e t u s.made better in
    by_cases (λ (b : Bool). s.made + makes (cond b [] more) ≡ (cond b (untouched u s) (meet t u lo hi better s)).made) (le (width lo hi) t)
    (λ y. omega arith)
    (λ n. omega (arith, losing_makes e t u lo hi better s))

visitings_makes : (e : ℕ) (t : Float) (w : Window) (us : List Window) (s : Walk) → s.made + makes (visitings e t w us s) ≡ (visits better_of t w us s).made
unfolding makes visitings visits
visitings_makes e t w [] s = omega arith
visitings_makes e t w (u ∷ us) s = omega (arith, makes_append (visiting e t w u s) (visitings e t w us (visit better_of t w u s)), visiting_makes e t w u s, visitings_makes e t w us (visit better_of t w u s))

touch_makes : (b : Bool) (v : ℕ) (d : Float) → makes (push_if b (touch v d)) ≡ 0
unfolding makes
touch_makes b v d = by_cases (λ (b : Bool). makes (push_if b (touch v d)) ≡ 0) b (λ y. refl) (λ y. refl)

touching_makes : (e : Edge) (nw : Window) → makes (touching e nw) ≡ 0
unfolding touching
touching_makes e nw =
    let l = e.len in
    let x = push_if (le nw.b0 (near ⊗ l)) (touch e.a.0 (eval_of (win_of nw) zero64 zero64)) in
    let y = push_if (le (l ⊖ near ⊗ l) nw.b1) (touch e.b.0 (eval_of (win_of nw) l zero64)) in
    omega (arith, makes_append x y, touch_makes (le nw.b0 (near ⊗ l)) e.a.0 (eval_of (win_of nw) zero64 zero64), touch_makes (le (l ⊖ near ⊗ l) nw.b1) e.b.0 (eval_of (win_of nw) l zero64))

keeping_makes : (e : Edge) (w : Window) (n : ℕ) (ks : List Interval) → makes (keeping e w n ks) ≡ length ks
unfolding makes keeping
keeping_makes e w n [] = refl
keeping_makes e w n (k ∷ ks) =
    let nw = part w k.from k.to n in
    omega (arith, makes_append (making e.id.0 w n k) (touching e nw ++ keeping e w (suc n) ks), making_makes e.id.0 w n k, makes_append (touching e nw) (keeping e w (suc n) ks), touching_makes e nw, keeping_makes e w (suc n) ks)

adding_makes : (e : Edge) (w : Window) (live : List Window) (made : ℕ) → made + makes (adding e w live made) ≡ (add_to better_of (tiny_of e.len) w live made).made
unfolding makes adding add_to
adding_makes e w live made =
    let t = tiny_of e.len in
    let r = run t w live in
    let s = visits better_of t w r (start w made) in
    omega (arith, makes_append (visitings e.id.0 t w r (start w made)) (keeping e w s.made (wide_of t s.keep)), visitings_makes e.id.0 t w r (start w made), keeping_makes e w s.made (wide_of t s.keep))

module _ (cuts windows : ℕ) (limit : Float) (flags : List ℕ) where
  -- if it went through, m windows are made: as the model counts them
  adding_made : (e : Edge) (w : Window) (live : List Window) (s : Stock) → Made (add_to better_of (tiny_of e.len) w live s.made).made (play cuts windows limit flags (adding e w live s.made) s)
  adding_made e w live s =
      let xs = adding e w live s.made in
      subst (λ (n : ℕ). Made n (play cuts windows limit flags xs s)) (adding_makes e w live s.made) (play_made cuts windows limit flags xs s)

  -- what holds of the state, if it went through
  abbrev pub After : (State → Type 0) → Result → Type 0
  After P (state.stopped n) = Unit {0}
  After P (state.went s) = P s

  pub finish_after : (P : State → Type 0) (wins : List WindowRecord) (live : ℕ → List Window) (m : ℕ) (o : Outcome) → Made m o → ((k : Stock) → k.made ≡ m → P (record { wins = wins; live = live; stock = k })) → After P (finish wins live o)
  unfolding finish
  finish_after P wins live m (stopped n) h f = tt
  finish_after P wins live m (went k) h f = f k h

  module _ (mesh : EdgeData) {cs : List Candidate} (c : Candidate) (s : State) (p : AdmittedProper limit mesh.len c) (F : Follows limit mesh.len cs s.stock.made s.live) where
    abbrev Next : State → Type 0
    Next s' = Follows limit mesh.len (cs ++ (c ∷ [])) s'.stock.made s'.live

    admit_after : T (admits limit mesh.len c) → After Next (admit_of cuts windows limit flags mesh c s)
    unfolding admit_of
    admit_after y =
        let e = c.edge in
        let l = mesh.len e in
        let a = add_to better_of (tiny_of l) (as_window c) (s.live e) s.stock.made in
        let live = put e a.live s.live in
        let todo = adding (edge_in mesh e) (as_window c) (s.live e) s.stock.made in
        finish_after Next (wins_after todo s.wins) live a.made (play cuts windows limit flags todo s.stock) (adding_made (edge_in mesh e) (as_window c) (s.live e) s.stock)
        (λ k i. subst (λ (n : ℕ). Follows limit mesh.len (cs ++ (c ∷ [])) n live) (sym i) (follows_add F c (p y) y))

    pub add_after : After Next (add_of cuts windows limit flags mesh c s)
    unfolding add_of
    add_after = by_cases (λ (b : Bool). (T b → T (admits limit mesh.len c)) → (T (not b) → T (not (admits limit mesh.len c))) → After Next (cond b (admit_of cuts windows limit flags mesh c s) (state.went s))) (admits limit mesh.len c)
        (λ y f g. admit_after (f tt))
        (λ n f g. follows_skip F c (g tt))
        (λ z. z) (λ z. z)

    -- an addition that goes through leaves lists that follow the model
    pub follows_step : (s' : State) → add_of cuts windows limit flags mesh c s ≡ state.went s' → Follows limit mesh.len (cs ++ (c ∷ [])) s'.stock.made s'.live
    follows_step s' h = subst (After Next) h add_after
