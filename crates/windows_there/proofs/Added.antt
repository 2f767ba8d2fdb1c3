-- The windows that an addition makes, and those that it leaves on its edge, go into what the candidate or the windows of the edge went into. Assumes nothing.
use Prim.Native.Nat.{ℕ, suc}
use mathlib.Core.Bool.{Bool, true, false, cond}
use mathlib.Core.List.{List, [], ◌∷◌, ◌++◌}
use mathlib.Core.Path.{subst}
use lib.ListN.{length}
use lib.Ieee.{Float, le}
use Rattle.float64.specs.Scalar.{zero64}
use Rattle.float64.specs.Notation.{◌⊖◌, ◌⊗◌}
use Rattle.source.specs.Distance.{lowest_of, eval_of}
use Rattle.pop.specs.of_better.Claim.{All}
use Rattle.pop.specs.of_better.Points.{pts_of, walk_of}
use Rattle.pop.specs.of_better.Stretches.{Interval, better_of}
use Rattle.windows.specs.declared.Edge.{Edge}
use Rattle.actions.specs.Actions.{Action, list, make, trim, kill, push, touch}
use Rattle.pop.specs.of_trim_model.Intervals.{width, tiny_of, push_if, next, pieces, wide_of}
use Rattle.pop.specs.of_trim_model.Windows.{Window, part, fresh, split, sorted}
use Rattle.pop.specs.of_trim_model.Add.{Walk, before, run, behind, shared_lo, shared_hi, start, untouched, meet, visit, visits, add_to}
use Rattle.pop.proofs.laws_of_trim_model.Ranks.{by_cases}
use Rattle.pop.proofs.laws_of_trim_model.Lists.{all_append, all_left, all_right}
use Rattle.pop.proofs.laws_of_trim_model.Windows.{parted, sorted_all}
use Rattle.pop.specs.of_trim_state.Trace.{window_event, win_of, making, makings, splitting, losing, visiting, visitings, near, touching, keeping, adding}
use Rattle.windows_there.specs.There.{RecordThere, LiveThere, ItemThere}

-- ---- those that are left
module _ (P : ℕ → ℕ → Type 0) (e : ℕ) where
  abbrev Here : Window → Type 0
  Here = LiveThere P e

  fresh_there : (u : Window) → Here u → (n : ℕ) (ps : List Interval) → All Here (fresh u n ps)
  unfolding fresh
  fresh_there u h n [] = tt
  fresh_there u h n (p ∷ ps) = (h, fresh_there u h (suc n) ps)

  split_there : (u : Window) → Here u → (n : ℕ) (ps : List Interval) → All Here (split u n ps)
  unfolding split
  split_there u h n [] = tt
  split_there u h n (p ∷ ps) = (h, fresh_there u h n ps)

  meet_there : (t : Float) (u : Window) → Here u → (lo hi : Float) (gs : List Interval) (s : Walk) → All Here s.survivors → All Here (meet t u lo hi gs s).survivors
  unfolding meet
  meet_there t u k lo hi [] s h = all_append Here s.survivors (u ∷ []) h (k, tt)
  meet_there t u k lo hi (g ∷ gs) s h =
      let ps = pieces t u.b0 u.b1 (g ∷ gs) in
      all_append Here s.survivors (split u s.made ps) h (split_there u k s.made ps)

  visits_there : (t : Float) (w : Window) (us : List Window) → All Here us → (s : Walk) → All Here s.survivors → All Here (visits better_of t w us s).survivors
  unfolding visits visit
  visits_there t w [] k s h = h
  visits_there t w (u ∷ us) k s h =
      let lo = shared_lo w u in
      let hi = shared_hi w u in
      let gs = better_of w.src u.src lo hi in
      visits_there t w us k.1 (visit better_of t w u s)
      (by_cases (λ (c : Bool). All Here (cond c (untouched u s) (meet t u lo hi gs s)).survivors) (le (width lo hi) t)
      (λ y. all_append Here s.survivors (u ∷ []) h (k.0, tt))
      (λ n. meet_there t u k.0 lo hi gs s h))

  pub left_there : (t : Float) (w : Window) → Here w → (l : List Window) (made : ℕ) → All Here l → All Here (add_to better_of t w l made).live
  unfolding add_to
  left_there t w k l made h =
      let s = visits better_of t w (run t w l) (start w made) in
      let news = fresh w s.made (wide_of t s.keep) in
      let all = subst (All Here) (parted t w l) h in
      let r = all_right Here (before t w l) (run t w l ++ behind t w l) all in
      all_append Here (before t w l) (sorted (s.survivors ++ news) ++ behind t w l) (all_left Here (before t w l) (run t w l ++ behind t w l) all)
      (all_append Here (sorted (s.survivors ++ news)) (behind t w l)
      (sorted_all Here (s.survivors ++ news) (all_append Here s.survivors news (visits_there t w (run t w l) (all_left Here (run t w l) (behind t w l) r) (start w made) tt) (fresh_there w k s.made (wide_of t s.keep))))
      (all_right Here (run t w l) (behind t w l) r))

-- ---- those that are made, and the vertices that are touched
module _ (P : ℕ → ℕ → Type 0) (Q : ℕ → Type 0) where
  abbrev pub MakesThere : Action → Type 0
  MakesThere (list n) = Unit {0}
  MakesThere (make x) = RecordThere P x
  MakesThere (trim i b0 b1 low) = Unit {0}
  MakesThere (kill i) = Unit {0}
  MakesThere (push e) = ItemThere Q e.item
  MakesThere (touch v d) = Q v

  abbrev All-there : List Action → Type 0
  All-there = All MakesThere

  making_there : (e : ℕ) (u : Window) → LiveThere P e u → (n : ℕ) (p : Interval) → All-there (making e u n p)
  making_there e u k n p = (k, by_cases (λ (b : Bool). All-there (push_if b (push (window_event (lowest_of u.src p.from p.to) n)))) u.carried.queued (λ y. (tt, tt)) (λ y. tt))

  makings_there : (e : ℕ) (u : Window) → LiveThere P e u → (n : ℕ) (ps : List Interval) → All-there (makings e u n ps)
  unfolding makings
  makings_there e u k n [] = tt
  makings_there e u k n (p ∷ ps) = all_append MakesThere (making e u n p) (makings e u (suc n) ps) (making_there e u k n p) (makings_there e u k (suc n) ps)

  splitting_there : (e : ℕ) (u : Window) → LiveThere P e u → (n : ℕ) (ps : List Interval) → All-there (splitting e u n ps)
  unfolding splitting
  splitting_there e u k n [] = (tt, tt)
  splitting_there e u k n (p ∷ ps) = (tt, makings_there e u k n ps)

  losing_there : (e : ℕ) (t : Float) (u : Window) → LiveThere P e u → (n : ℕ) (gs : List Interval) → All-there (losing e t u n gs)
  unfolding losing
  losing_there e t u k n [] = tt
  losing_there e t u k n (g ∷ gs) = (tt, splitting_there e u k n (pieces t u.b0 u.b1 (g ∷ gs)))

  visiting_there : (e : ℕ) (t : Float) (w u : Window) → LiveThere P e u → (s : Walk) → All-there (visiting e t w u s)
  unfolding visiting
  visiting_there e t w u k s =
      let lo = shared_lo w u in
      let hi = shared_hi w u in
      let gs = better_of w.src u.src lo hi in
      let more = list (length (walk_of w.src u.src (pts_of w.src u.src lo hi))) ∷ list (length gs) ∷ list (length (next lo hi gs s.keep)) ∷ losing e t u s.made gs in
      by_cases (λ (b : Bool). All-there (cond b [] more)) (le (width lo hi) t) (λ y. tt) (λ n. (tt, (tt, (tt, losing_there e t u k s.made gs))))

  visitings_there : (e : ℕ) (t : Float) (w : Window) (us : List Window) → All (LiveThere P e) us → (s : Walk) → All-there (visitings e t w us s)
  unfolding visitings
  visitings_there e t w [] k s = tt
  visitings_there e t w (u ∷ us) k s =
      all_append MakesThere (visiting e t w u s) (visitings e t w us (visit better_of t w u s)) (visiting_there e t w u k.0 s) (visitings_there e t w us k.1 (visit better_of t w u s))

  touch_there : (b : Bool) (v : ℕ) → Q v → (d : Float) → All-there (push_if b (touch v d))
  touch_there true v h d = (h, tt)
  touch_there false v h d = tt

  touching_there : (e : Edge) → Q e.a.0 → Q e.b.0 → (nw : Window) → All-there (touching e nw)
  unfolding touching
  touching_there e va vb nw =
      let l = e.len in
      let x = le nw.b0 (near ⊗ l) in
      let y = le (l ⊖ near ⊗ l) nw.b1 in
      let da = eval_of (win_of nw) zero64 zero64 in
      let db = eval_of (win_of nw) l zero64 in
      all_append MakesThere (push_if x (touch e.a.0 da)) (push_if y (touch e.b.0 db)) (touch_there x e.a.0 va da) (touch_there y e.b.0 vb db)

  keeping_there : (e : Edge) → Q e.a.0 → Q e.b.0 → (w : Window) → LiveThere P e.id.0 w → (n : ℕ) (ks : List Interval) → All-there (keeping e w n ks)
  unfolding keeping
  keeping_there e va vb w h n [] = tt
  keeping_there e va vb w h n (k ∷ ks) =
      let nw = part w k.from k.to n in
      all_append MakesThere (making e.id.0 w n k) (touching e nw ++ keeping e w (suc n) ks) (making_there e.id.0 w h n k) (all_append MakesThere (touching e nw) (keeping e w (suc n) ks) (touching_there e va vb nw) (keeping_there e va vb w h (suc n) ks))

  pub adding_there : (e : Edge) → Q e.a.0 → Q e.b.0 → (w : Window) → LiveThere P e.id.0 w → (live : List Window) (made : ℕ) → All (LiveThere P e.id.0) live → All-there (adding e w live made)
  unfolding adding
  adding_there e va vb w h live made k =
      let t = tiny_of e.len in
      let r = run t w live in
      let s = visits better_of t w r (start w made) in
      let Here = LiveThere P e.id.0 in
      let all = all_right Here (before t w live) (r ++ behind t w live) (subst (All Here) (parted t w live) k) in
      (tt, all_append MakesThere (visitings e.id.0 t w r (start w made)) (keeping e w s.made (wide_of t s.keep)) (visitings_there e.id.0 t w r (all_left Here r (behind t w live) all) (start w made)) (keeping_there e va vb w h s.made (wide_of t s.keep)))
