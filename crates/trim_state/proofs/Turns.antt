-- The actions of an addition turn by turn: of the loop over the run, of the pieces of one window, and of the loop over `keep`. Assumes nothing.
use Prim.Native.Nat.{ℕ, suc}
use mathlib.Core.Bool.{Bool, true, false, not, cond}
use mathlib.Core.List.{List, [], ◌∷◌, ◌++◌}
use mathlib.Core.Path.{◌≡◌, refl, ap}
use lib.ListN.{length}
use lib.Ieee.{Float, le}
use Rattle.float64.specs.Notation.{◌⊕◌}
use Rattle.better.specs.Points.{pts_of, walk_of}
use Rattle.better.specs.Stretches.{Interval, better_of}
use Rattle.windows.specs.declared.Edge.{Edge}
use Rattle.actions.specs.Actions.{Action, list}
use Rattle.trim_model.specs.Intervals.{width, tiny_of, push_if, next, pieces, wide_of}
use Rattle.trim_model.specs.Windows.{Window, part, take_while, drop_while}
use Rattle.trim_model.specs.Add.{Walk, starts_before, passes, run, shared_lo, shared_hi, start, visits}
use Rattle.trim_model.proofs.Order.{Tidy}
use Rattle.trim_model.proofs.Turns.{run_is}
use Rattle.trim_state.specs.Trace.{making, splitting, losing, visiting, visitings, touching, keeping, adding}

-- ---- one window of the run
-- `better`'s two lists, `next`, then the pieces of u
abbrev pub meeting : ℕ → Float → Window → Window → Walk → List Action
meeting e t w u s =
    let lo = shared_lo w u in
    let hi = shared_hi w u in
    let better = better_of w.src u.src lo hi in
    list (length (walk_of w.src u.src (pts_of w.src u.src lo hi)))
    ∷ list (length better)
    ∷ list (length (next lo hi better s.keep))
    ∷ losing e t u s.made better

-- what w and u share is no wider than tiny: nothing is done
pub visiting_untouched : (e : ℕ) (t : Float) (w u : Window) (s : Walk) → le (width (shared_lo w u) (shared_hi w u)) t ≡ true → visiting e t w u s ≡ []
unfolding visiting
visiting_untouched e t w u s h = ap (λ (c : Bool). cond c [] (meeting e t w u s)) h

-- it is wider
pub visiting_met : (e : ℕ) (t : Float) (w u : Window) (s : Walk) → le (width (shared_lo w u) (shared_hi w u)) t ≡ false → visiting e t w u s ≡ meeting e t w u s
unfolding visiting
visiting_met e t w u s h = ap (λ (c : Bool). cond c [] (meeting e t w u s)) h

-- w is nowhere shorter
pub losing_none : (e : ℕ) (t : Float) (u : Window) (n : ℕ) → losing e t u n [] ≡ []
unfolding losing
losing_none e t u n = refl

-- w is shorter somewhere: u falls into pieces
pub losing_some : (e : ℕ) (t : Float) (u : Window) (n : ℕ) (g : Interval) (gs : List Interval) → losing e t u n (g ∷ gs) ≡ list (length (pieces t u.b0 u.b1 (g ∷ gs))) ∷ splitting e u n (pieces t u.b0 u.b1 (g ∷ gs))
unfolding losing
losing_some e t u n g gs = refl

-- ---- the actions of the walk over the run, from here to its end
module _ (e : ℕ) (t : Float) (w : Window) where
  abbrev from_here : List Window → Walk → List Action
  from_here zs s = visitings e t w (take_while (starts_before (w.b1 ⊕ t)) zs) s

  -- the whole walk of an addition to a tidy list, from the first window that is not passed
  pub visitings_start : (l : List Window) (made : ℕ) → Tidy t l → visitings e t w (run t w l) (start w made) ≡ from_here (drop_while (passes t w.b0) l) (start w made)
  visitings_start l made h = ap (λ (us : List Window). visitings e t w us (start w made)) (run_is t w l h)

-- ---- the loop over `keep`
-- a wide entry becomes a window
pub wide_yes : (t : Float) (k : Interval) (ks : List Interval) → le (width k.from k.to) t ≡ false → wide_of t (k ∷ ks) ≡ k ∷ wide_of t ks
unfolding wide_of
wide_yes t k ks h = ap (λ (c : Bool). push_if (not c) k ++ wide_of t ks) h

-- an entry that is no wider than tiny is left out
pub wide_skip : (t : Float) (k : Interval) (ks : List Interval) → le (width k.from k.to) t ≡ true → wide_of t (k ∷ ks) ≡ wide_of t ks
unfolding wide_of
wide_skip t k ks h = ap (λ (c : Bool). push_if (not c) k ++ wide_of t ks) h

-- no entry is left
pub wide_end : (t : Float) → wide_of t [] ≡ []
unfolding wide_of
wide_end t = refl

-- no new window is left
pub keeping_none : (e : Edge) (w : Window) (n : ℕ) → keeping e w n [] ≡ []
unfolding keeping
keeping_none e w n = refl

-- one new window, then the others
pub keeping_some : (e : Edge) (w : Window) (n : ℕ) (k : Interval) (ks : List Interval) → keeping e w n (k ∷ ks) ≡ making e.id.0 w n k ++ (touching e (part w k.from k.to n) ++ keeping e w (suc n) ks)
unfolding keeping
keeping_some e w n k ks = refl

-- ---- the whole, of a tidy list
module _ (e : Edge) where
  abbrev t₀ : Float
  t₀ = tiny_of e.len

  pub adding_is : (w : Window) (live : List Window) (made : ℕ) → Tidy t₀ live → adding e w live made
      ≡ list 1 ∷ (visitings e.id.0 t₀ w (take_while (starts_before (w.b1 ⊕ t₀)) (drop_while (passes t₀ w.b0) live)) (start w made)
      ++ keeping e w (visits better_of t₀ w (run t₀ w live) (start w made)).made (wide_of t₀ (visits better_of t₀ w (run t₀ w live) (start w made)).keep))
  unfolding adding
  adding_is w live made h =
      let s = visits better_of t₀ w (run t₀ w live) (start w made) in
      ap (λ (xs : List Action). list 1 ∷ (xs ++ keeping e w s.made (wide_of t₀ s.keep))) (visitings_start e.id.0 t₀ w live made h)
