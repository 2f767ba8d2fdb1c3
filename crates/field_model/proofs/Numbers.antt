-- The events that an addition pushes are well-formed: their keys are doubles, since each is a sum, and a window's number is one of those made. Assumes nothing.
use Prim.Native.Nat.{ℕ, suc, ◌+◌, pred, ◌<◌}
use native.Mathlib.Omega.{arith}
use mathlib.Core.Bool.{Bool, true, false, cond, ◌&&◌}
use mathlib.Core.List.{List, [], ◌∷◌, ◌++◌}
use mathlib.Core.Path.{◌≡◌, refl, sym, subst}
use lib.Dec.{T}
use lib.ListN.{length}
use lib.Ieee.{Float, binary64, fits, le}
use lib.Ieee.Fits.{add-fits}
use Rattle.float_laws.proofs.MinMax.{min_fits}
use Rattle.root_spec.specs.Root.{hypot_of}
use Rattle.float64.specs.Scalar.{zero64, min_of, abs_of, clamp_of}
use Rattle.float64.specs.Notation.{◌⊕◌, ◌⊖◌, ◌⊗◌}
use Rattle.source.specs.declared.Src.{Src}
use Rattle.source.specs.declared.Src.TheVariants.{Point, Line}
use Rattle.source.specs.declared.Win.{Win}
use Rattle.source.specs.Distance.{edge_of, free_of, foot_of, lowest_of, eval_of}
use Rattle.compute_spec.specs.of_better.Points.{pts_of, walk_of}
use Rattle.compute_spec.specs.of_better.Stretches.{Interval, better_of}
use Rattle.heap.specs.Order.{item_number}
use Rattle.windows.specs.declared.Edge.{Edge}
use Rattle.actions.specs.Actions.{Action, list, make, trim, kill, push, touch}
use Rattle.compute_spec.specs.of_trim_model.Intervals.{width, tiny_of, push_if, next, pieces, wide_of}
use Rattle.compute_spec.specs.of_trim_model.Windows.{Window, part}
use Rattle.compute_spec.specs.of_trim_model.Add.{Walk, run, shared_lo, shared_hi, start, untouched, meet, visit, visits, add_to}
use Rattle.compute_spec.proofs.laws_of_trim_model.Ranks.{by_cases}
use Rattle.compute_spec.specs.of_trim_state.Trace.{window_event, win_of, making, makings, splitting, losing, visiting, visitings, near, touching, keeping, adding}
use Rattle.compute_spec.proofs.laws_of_trim_state.Made.{one}

-- ---- keys
abbrev pub Double : Float → Type 0
Double x = T (fits binary64 x)

edge_double : (src : Src) (x : Float) → Double (edge_of src x)
unfolding edge_of
edge_double (Point sx sy s) x = add-fits binary64 (hypot_of binary64 (x ⊖ sx) sy) s
edge_double (Line ux uy c) x = add-fits binary64 c (ux ⊗ x)

free_double : (src : Src) (x y : Float) → Double (free_of src x y)
unfolding free_of
free_double (Point sx sy s) x y = add-fits binary64 (hypot_of binary64 (x ⊖ sx) (y ⊖ sy)) s
free_double (Line ux uy c) x y = add-fits binary64 (c ⊕ ux ⊗ x) (uy ⊗ y)

lower_double : (src : Src) (a b : Float) → Double (min_of (edge_of src a) (edge_of src b))
lower_double src a b = min_fits binary64 (edge_of src a) (edge_of src b) (edge_double src a) (edge_double src b)

lowest_double : (src : Src) (b0 b1 : Float) → Double (lowest_of src b0 b1)
unfolding lowest_of
lowest_double (Point x y s) b0 b1 = by_cases (λ (b : Bool). Double (cond b (abs_of y ⊕ s) (min_of (edge_of (Point x y s) b0) (edge_of (Point x y s) b1)))) (le b0 x && le x b1) (λ t. add-fits binary64 (abs_of y) s) (λ t. lower_double (Point x y s) b0 b1)
lowest_double (Line ux uy c) b0 b1 = lower_double (Line ux uy c) b0 b1

eval_double : (w : Win) (x y : Float) → Double (eval_of w x y)
unfolding eval_of
eval_double w x y =
    let f = foot_of w.src x y in
    let q = clamp_of f w.b0 w.b1 in
    by_cases (λ (b : Bool). Double (cond b (free_of w.src x y) (hypot_of binary64 (x ⊖ q) y ⊕ edge_of w.src q))) (le w.b0 f && le f w.b1) (λ t. free_double w.src x y) (λ t. add-fits binary64 (hypot_of binary64 (x ⊖ q) y) (edge_of w.src q))

-- ---- actions, of vertices of which Named holds
module _ (Named : ℕ → Type 0) where
  -- with m windows made before it: a push is of one of them, and the key is a double
  abbrev pub Fit : ℕ → Action → Type 0
  Fit m (list n) = Unit {0}
  Fit m (make x) = Unit {0}
  Fit m (trim i b0 b1 low) = Unit {0}
  Fit m (kill i) = Unit {0}
  Fit m (push e) = (item_number e.item < m) × Double e.key
  Fit m (touch k d) = Named k × Double d

  -- one after the other, with m windows made before the first and m' after the last
  unfoldable pub AllFit : ℕ → List Action → ℕ → Type 0
  AllFit m [] m' = m ≡ m'
  AllFit m (a ∷ rest) m' = Fit m a × AllFit (m + one a) rest m'

  fit_same : (m n m' : ℕ) (xs : List Action) → m ≡ n → AllFit m xs m' → AllFit n xs m'
  fit_same m n m' xs e h = subst (λ (k : ℕ). AllFit k xs m') e h

  fit_append : (m m' m'' : ℕ) (xs ys : List Action) → AllFit m xs m' → AllFit m' ys m'' → AllFit m (xs ++ ys) m''
  unfolding AllFit
  fit_append m m' m'' [] ys h k = fit_same m' m m'' ys (sym h) k
  fit_append m m' m'' (a ∷ xs) ys h k = (h.0, fit_append (m + one a) m' m'' xs ys h.1 k)

  making_fit : (e : ℕ) (u : Window) (n : ℕ) (p : Interval) → AllFit n (making e u n p) (suc n)
  unfolding AllFit item_number
  making_fit e u n p = (
    tt,
    by_cases (λ (b : Bool). AllFit (n + 1) (push_if b (push (window_event (lowest_of u.src p.from p.to) n))) (suc n)) u.carried.queued
        (λ y. ((omega arith, lowest_double u.src p.from p.to), omega arith)) (λ y. omega arith),
  )

  makings_fit : (e : ℕ) (u : Window) (n : ℕ) (ps : List Interval) → AllFit n (makings e u n ps) (n + length ps)
  unfolding AllFit makings
  makings_fit e u n [] = omega arith
  makings_fit e u n (p ∷ ps) =
      let z : suc n + length ps ≡ n + suc (length ps) = omega arith in
      fit_append n (suc n) (n + suc (length ps)) (making e u n p) (makings e u (suc n) ps) (making_fit e u n p) (subst (AllFit (suc n) (makings e u (suc n) ps)) z (makings_fit e u (suc n) ps))

  splitting_fit : (e : ℕ) (u : Window) (n : ℕ) (ps : List Interval) → AllFit n (splitting e u n ps) (n + pred (length ps))
  unfolding AllFit splitting
  splitting_fit e u n [] = (tt, omega arith)
  splitting_fit e u n (p ∷ ps) = (tt, fit_same n (n + 0) (n + length ps) (makings e u n ps) (omega arith) (makings_fit e u n ps))

  losing_fit : (e : ℕ) (t : Float) (u : Window) (lo hi : Float) (gs : List Interval) (s : Walk) → AllFit s.made (losing e t u s.made gs) (meet t u lo hi gs s).made
  unfolding AllFit losing meet
  losing_fit e t u lo hi [] s = refl
  losing_fit e t u lo hi (g ∷ gs) s =
      let ps = pieces t u.b0 u.b1 (g ∷ gs) in
      (tt, fit_same s.made (s.made + 0) (s.made + pred (length ps)) (splitting e u s.made ps) (omega arith) (splitting_fit e u s.made ps))

  -- after one list, and after three
  list_fit : (a m m' : ℕ) (xs : List Action) → AllFit m xs m' → AllFit m (list a ∷ xs) m'
  unfolding AllFit
  list_fit a m m' xs h = (tt, fit_same m (m + 0) m' xs (omega arith) h)

  three_fit : (a b c m m' : ℕ) (xs : List Action) → AllFit m xs m' → AllFit m (list a ∷ list b ∷ list c ∷ xs) m'
  three_fit a b c m m' xs h = list_fit a m m' (list b ∷ list c ∷ xs) (list_fit b m m' (list c ∷ xs) (list_fit c m m' xs h))

  visiting_fit : (e : ℕ) (t : Float) (w u : Window) (s : Walk) → AllFit s.made (visiting e t w u s) (visit better_of t w u s).made
  unfolding visiting visit
  visiting_fit e t w u s =
      let lo = shared_lo w u in
      let hi = shared_hi w u in
      let gs = better_of w.src u.src lo hi in
      let a = length (walk_of w.src u.src (pts_of w.src u.src lo hi)) in
      let c = length (next lo hi gs s.keep) in
      by_cases (λ (b : Bool). AllFit s.made (cond b [] (list a ∷ list (length gs) ∷ list c ∷ losing e t u s.made gs)) (cond b (untouched u s) (meet t u lo hi gs s)).made) (le (width lo hi) t)
      (λ y. unfold AllFit in refl)
      (λ y. three_fit a (length gs) c s.made (meet t u lo hi gs s).made (losing e t u s.made gs) (losing_fit e t u lo hi gs s))

  visitings_fit : (e : ℕ) (t : Float) (w : Window) (us : List Window) (s : Walk) → AllFit s.made (visitings e t w us s) (visits better_of t w us s).made
  unfolding AllFit visitings visits
  visitings_fit e t w [] s = refl
  visitings_fit e t w (u ∷ us) s =
      fit_append s.made (visit better_of t w u s).made (visits better_of t w us (visit better_of t w u s)).made (visiting e t w u s) (visitings e t w us (visit better_of t w u s))
      (visiting_fit e t w u s) (visitings_fit e t w us (visit better_of t w u s))

  touch_fit : (b : Bool) (k : ℕ) → Named k → (d : Float) → Double d → (m : ℕ) → AllFit m (push_if b (touch k d)) m
  unfolding AllFit
  touch_fit true k h d f m = ((h, f), omega arith)
  touch_fit false k h d f m = refl

  touching_fit : (e : Edge) → Named e.a.0 → Named e.b.0 → (nw : Window) (m : ℕ) → AllFit m (touching e nw) m
  unfolding touching
  touching_fit e va vb nw m =
      let l = e.len in
      let x = le nw.b0 (near ⊗ l) in
      let y = le (l ⊖ near ⊗ l) nw.b1 in
      let da = eval_of (win_of nw) zero64 zero64 in
      let db = eval_of (win_of nw) l zero64 in
      fit_append m m m (push_if x (touch e.a.0 da)) (push_if y (touch e.b.0 db)) (touch_fit x e.a.0 va da (eval_double (win_of nw) zero64 zero64) m) (touch_fit y e.b.0 vb db (eval_double (win_of nw) l zero64) m)

  keeping_fit : (e : Edge) → Named e.a.0 → Named e.b.0 → (w : Window) (n : ℕ) (ks : List Interval) → AllFit n (keeping e w n ks) (n + length ks)
  unfolding AllFit keeping
  keeping_fit e va vb w n [] = omega arith
  keeping_fit e va vb w n (k ∷ ks) =
      let nw = part w k.from k.to n in
      let z : suc n + length ks ≡ n + suc (length ks) = omega arith in
      let later = subst (AllFit (suc n) (keeping e w (suc n) ks)) z (keeping_fit e va vb w (suc n) ks) in
      fit_append n (suc n) (n + suc (length ks)) (making e.id.0 w n k) (touching e nw ++ keeping e w (suc n) ks) (making_fit e.id.0 w n k)
      (fit_append (suc n) (suc n) (n + suc (length ks)) (touching e nw) (keeping e w (suc n) ks) (touching_fit e va vb nw (suc n)) later)

  pub adding_fit : (e : Edge) → Named e.a.0 → Named e.b.0 → (w : Window) (live : List Window) (made : ℕ) → AllFit made (adding e w live made) (add_to better_of (tiny_of e.len) w live made).made
  unfolding adding add_to
  adding_fit e va vb w live made =
      let t = tiny_of e.len in
      let r = run t w live in
      let s = visits better_of t w r (start w made) in
      let ks = wide_of t s.keep in
      let todo = visitings e.id.0 t w r (start w made) ++ keeping e w s.made ks in
      let all = fit_append made s.made (s.made + length ks) (visitings e.id.0 t w r (start w made)) (keeping e w s.made ks) (visitings_fit e.id.0 t w r (start w made)) (keeping_fit e va vb w s.made ks) in
      list_fit 1 made (s.made + length ks) todo all
