-- One walk from the start of a list comes to the Rust's walk back from its middle, and the turns of that walk along a chain. Assumes nothing.
use Prim.Native.Nat.{ℕ, suc, ◌+◌, ◌*◌, ◌-◌, ◌<◌, ◌≤◌}
use native.Mathlib.Omega.{arith}
use mathlib.Core.Bool.{Bool, true, false, cond}
use mathlib.Core.List.{List, [], ◌∷◌, reverse_aux}
use mathlib.Core.Logic.{◌≢◌}
use mathlib.Core.Path.{◌≡◌, refl, sym, ap, ◌∙◌}
use lib.Ieee.{Float, nan, binary64, lt, le, div, of_bits}
use lib.ListN.{take, drop, get_or}
use Rattle.float64.specs.Scalar.{zero64, min_of}
use Rattle.source.specs.declared.Win.{Win}
use Rattle.source.specs.Distance.{eval_of}
use Rattle.layout.specs.Layout.{reals_per_window, window_b0, window_b1}
use Rattle.windows.specs.Windows.{window_at, win_at}
use Rattle.chains.specs.Chains.{Links, link_in, link_at}
use Rattle.last_pass.specs.Buffers.{chain_behind, wins_on}
use Rattle.last_pass.proofs.Chains.{chain_end, chain_next, chain_out}
use Rattle.last_pass.specs.of_face_distance.Entries.{through_ends}
use Rattle.edge_query.specs.declared.Passed.{Passed}
use Rattle.edge_query.specs.EdgeDistance.{partition_point, with_next, backwards, edge_distance}
use Rattle.edge_query.specs.Forward.{win_of_number, value_of, passed_value, past_of, forward, no_windows_passed}
use Rattle.edge_query.proofs.Least.{nan_min, min_nan, min_assoc}

-- 0.0 / 0.0
pub no_number : div binary64 zero64 zero64 ≡ nan
unfolding div of_bits
no_number = refl

module _ (w : List ℕ) (f : List Float) (x : Float) where
  -- what `value` answers
  pub value_none : (l : ℕ) → l ≡ 0 → nan ≡ value_of w f x l
  unfolding value_of
  value_none l h = rw h refl

  pub value_some : (l : ℕ) → l ≢ 0 → (v : Float) → v ≡ eval_of (win_of_number w f x (l - 1)) x zero64 → v ≡ value_of w f x l
  unfolding value_of
  value_some l q v h = h ∙ ap (value_of w f x) (let g : suc (l - 1) ≡ l = omega arith in g)

  -- what `past` answers of the window of link l, whose end is b1
  module _ (p : Passed) (l : ℕ) (m : 0 < l) (b1 : Float) (is : b1 ≡ get_or f (reals_per_window * (l - 1) + window_b1) nan) where
    ends : lt (win_of_number w f x (l - 1)).b1 x ≡ lt b1 x
    unfolding window_at win_at
    ends = ap (λ (y : Float). lt y x) (sym is)

    same : l ≡ suc (l - 1)
    same = omega arith

    pub past_short : lt b1 x ≡ true → record { least = nan; short = l } ≡ past_of w f x p (l - 1)
    unfolding past_of
    past_short t = rw (ends, t) (ap (λ (k : ℕ). record { least = nan; short = k }) same)

    pub past_long : lt b1 x ≡ false → (v least : Float) → v ≡ value_of w f x l → least ≡ min_of v p.least → record { least = least; short = p.short } ≡ past_of w f x p (l - 1)
    unfolding past_of
    past_long t v least h k = rw (ends, t) (ap (λ (d : Float). record { least = d; short = p.short }) (k ∙ ap (λ (y : Float). min_of y p.least) (h ∙ ap (value_of w f x) same)))

  -- and where it leads
  pub past_within : (n : ℕ) (p : Passed) (i : ℕ) → p.short ≤ n → i < n → (past_of w f x p i).short ≤ n
  unfolding past_of
  past_within n p i h m = go (lt (win_of_number w f x i).b1 x) where
    go : (t : Bool) → (cond {A = Passed} t (record { least = nan; short = suc i }) (record { least = min_of (value_of w f x (suc i)) p.least; short = p.short })).short ≤ n
    go true = m
    go false = h

  -- what was passed has the value of the walk back over the windows passed, the last of them first
  Stands : Passed → List Win → Type 0
  Stands p back = (d : Float) → backwards x d back ≡ min_of d (passed_value w f x p)

  none_stands : Stands no_windows_passed []
  unfolding Stands backwards value_of
  none_stands d = sym (ap (min_of d) (nan_min nan) ∙ min_nan d)

  one_more : (p : Passed) (back : List Win) (i : ℕ) → Stands p back → Stands (past_of w f x p i) (win_of_number w f x i ∷ back)
  unfolding Stands backwards value_of past_of
  one_more p back i s d = go (lt (win_of_number w f x i).b1 x) where
    v : Float
    v = eval_of (win_of_number w f x i) x zero64

    go : (t : Bool) → cond t (min_of d v) (backwards x (min_of d v) back) ≡ min_of d (passed_value w f x (cond t (record { least = nan; short = suc i }) (record { least = min_of v p.least; short = p.short })))
    go true = sym (ap (min_of d) (nan_min v))
    go false = s (min_of d v) ∙ min_assoc d v (passed_value w f x p) ∙ ap (min_of d) (sym (min_assoc v p.least (value_of w f x p.short)))

  -- the Rust's answer for a list of windows, with windows passed before it
  abbrev from_middle : Float → List Win → List Win → Float
  from_middle d back ws = backwards x (with_next x d (drop (partition_point x ws) ws)) (reverse_aux (take (partition_point x ws) ws) back)

  walk : (d : Float) (p : Passed) (back : List Win) (is : List ℕ) → Stands p back → forward w f x d p is ≡ from_middle d back (wins_on w f is)
  unfolding Stands forward partition_point with_next
  walk d p back [] s = sym (s d)
  walk d p back (i ∷ is) s = go (le (win_of_number w f x i).b0 x) (walk d (past_of w f x p i) (win_of_number w f x i ∷ back) is (one_more p back i s)) where
    u : Win
    u = win_of_number w f x i

    go : (t : Bool) → forward w f x d (past_of w f x p i) is ≡ from_middle d (u ∷ back) (wins_on w f is) → cond t (forward w f x d (past_of w f x p i) is) (min_of (min_of d (value_of w f x (suc i))) (passed_value w f x p))
        ≡ backwards x (with_next x d (drop (cond t (suc (partition_point x (wins_on w f is))) 0) (u ∷ wins_on w f is))) (reverse_aux (take (cond t (suc (partition_point x (wins_on w f is))) 0) (u ∷ wins_on w f is)) back)
    go true h = h
    go false h = sym (s (min_of d (eval_of u x zero64)))

  pub forward_is : (da db l : Float) (is : List ℕ) → forward w f x (through_ends da db l x) no_windows_passed is ≡ edge_distance da db l (wins_on w f is) x
  unfolding edge_distance
  forward_is da db l is = walk (through_ends da db l x) no_windows_passed [] is none_stands

-- ---- the turns of the walk along the chain of edge e; r is the link that was read, and b0 the start of its window
module _ (made : ℕ) (b : Links) (f : List Float) (e : ℕ) (x d : Float) where
  abbrev pub to_come : ℕ → ℕ → Passed → Float
  to_come left k p = forward b.words f x d p (chain_behind made b e left k)

  pub at_end_lem : (left k r : ℕ) (p : Passed) → r ≡ link_in made (link_at b e k) → r ≡ 0 → to_come left k p ≡ min_of d (passed_value b.words f x p)
  unfolding forward
  at_end_lem left k r p read h = ap (forward b.words f x d p) (chain_end made b e left k r read h)

  pub at_count : (left k : ℕ) (p : Passed) → left ≡ 0 → to_come left k p ≡ min_of d (passed_value b.words f x p)
  unfolding forward
  at_count left k p h = ap (forward b.words f x d p) (chain_out made b e left k h)

  module _ (left k r : ℕ) (p : Passed) (read : r ≡ link_in made (link_at b e k)) (m : 0 < left) (q : r ≢ 0) (b0 : Float) (is : b0 ≡ get_or f (reals_per_window * (r - 1) + window_b0) nan) where
    met : to_come left k p ≡ forward b.words f x d p ((r - 1) ∷ chain_behind made b e (left - 1) r)
    met = ap (forward b.words f x d p) (chain_next made b e left k r read m q)

    pub passes : le b0 x ≡ true → to_come (left - 1) r (past_of b.words f x p (r - 1)) ≡ to_come left k p
    unfolding forward window_at win_at
    passes t = sym (met ∙ ap (λ (c : Bool). cond c (to_come (left - 1) r (past_of b.words f x p (r - 1))) (min_of (min_of d (value_of b.words f x (suc (r - 1)))) (passed_value b.words f x p))) (ap (λ (y : Float). le y x) (sym is) ∙ t))

    pub stops : le b0 x ≡ false → to_come left k p ≡ min_of (min_of d (value_of b.words f x r)) (passed_value b.words f x p)
    unfolding forward window_at win_at
    stops t =
        met
        ∙ ap (λ (c : Bool). cond c (to_come (left - 1) r (past_of b.words f x p (r - 1))) (min_of (min_of d (value_of b.words f x (suc (r - 1)))) (passed_value b.words f x p))) (ap (λ (y : Float). le y x) (sym is) ∙ t)
        ∙ ap (λ (i : ℕ). min_of (min_of d (value_of b.words f x i)) (passed_value b.words f x p)) (let g : suc (r - 1) ≡ r = omega arith in g)
