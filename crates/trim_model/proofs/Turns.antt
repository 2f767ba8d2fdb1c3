-- The walk forward along an edge's list, past the windows before the run and then over the run itself, window by window. Assumes nothing.
use Prim.Native.Nat.{◌+◌, pred}
use mathlib.Core.Bool.{Bool, true, false, cond}
use mathlib.Core.List.{List, [], ◌∷◌, ◌++◌}
use mathlib.Core.Path.{◌≡◌, refl, ap}
use lib.ListN.{length}
use lib.Ieee.{Float, le}
use Rattle.float64.specs.Notation.{◌⊕◌}
use Rattle.better.specs.Stretches.{Interval}
use Rattle.trim_model.specs.Intervals.{width, next, pieces, piece_slivers}
use Rattle.trim_model.specs.Windows.{Window, split, take_while, drop_while}
use Rattle.trim_model.specs.Add.{Better, Walk, starts_before, run, behind, passes, shared_lo, shared_hi, untouched, meet, visit}
use Rattle.trim_model.proofs.Order.{Tidy}
use Rattle.trim_model.proofs.Forward.{onward_is}

-- ---- the leading part of a list, by a test
module _ (p : Window → Bool) where
  -- the first passes
  pub take_yes : (u : Window) (us : List Window) → p u ≡ true → take_while p (u ∷ us) ≡ u ∷ take_while p us
  unfolding take_while
  take_yes u us h = ap (λ (c : Bool). cond c (u ∷ take_while p us) []) h

  -- it does not
  pub take_no : (u : Window) (us : List Window) → p u ≡ false → take_while p (u ∷ us) ≡ []
  unfolding take_while
  take_no u us h = ap (λ (c : Bool). cond c (u ∷ take_while p us) []) h

  -- there is none
  pub take_nil : take_while p [] ≡ []
  unfolding take_while
  take_nil = refl

-- ---- the parts of a tidy list by the walk forward
module _ (t : Float) (w : Window) (l : List Window) where
  -- the run
  pub run_is : Tidy t l → run t w l ≡ take_while (starts_before (w.b1 ⊕ t)) (drop_while (passes t w.b0) l)
  run_is h = ap (take_while (starts_before (w.b1 ⊕ t))) (onward_is t w l h)

  -- what stands behind the run
  pub behind_is : Tidy t l → behind t w l ≡ drop_while (starts_before (w.b1 ⊕ t)) (drop_while (passes t w.b0) l)
  behind_is h = ap (drop_while (starts_before (w.b1 ⊕ t))) (onward_is t w l h)

-- ---- one window of the run
-- what w and u share is no wider than tiny
pub visit_untouched : (better : Better) (t : Float) (w u : Window) (s : Walk) → le (width (shared_lo w u) (shared_hi w u)) t ≡ true → visit better t w u s ≡ untouched u s
unfolding visit
visit_untouched better t w u s h = ap (λ (c : Bool). cond c (untouched u s) (meet t u (shared_lo w u) (shared_hi w u) (better w.src u.src (shared_lo w u) (shared_hi w u)) s)) h

-- it is wider
pub visit_meet : (better : Better) (t : Float) (w u : Window) (s : Walk) → le (width (shared_lo w u) (shared_hi w u)) t ≡ false → visit better t w u s ≡ meet t u (shared_lo w u) (shared_hi w u) (better w.src u.src (shared_lo w u) (shared_hi w u)) s
unfolding visit
visit_meet better t w u s h = ap (λ (c : Bool). cond c (untouched u s) (meet t u (shared_lo w u) (shared_hi w u) (better w.src u.src (shared_lo w u) (shared_hi w u)) s)) h

-- w is nowhere shorter: u stays
pub meet_none : (t : Float) (u : Window) (lo hi : Float) (s : Walk) → meet t u lo hi [] s ≡ record { survivors = s.survivors ++ (u ∷ []); keep = next lo hi [] s.keep; made = s.made; slivers = s.slivers }
unfolding meet
meet_none t u lo hi s = refl

-- w is shorter somewhere: u is replaced by its pieces
pub meet_some : (t : Float) (u : Window) (lo hi : Float) (g : Interval) (gs : List Interval) (s : Walk) → meet t u lo hi (g ∷ gs) s ≡ record {
  survivors = s.survivors ++ split u s.made (pieces t u.b0 u.b1 (g ∷ gs));
  keep = next lo hi (g ∷ gs) s.keep;
  made = s.made + pred (length (pieces t u.b0 u.b1 (g ∷ gs)));
  slivers = s.slivers ++ piece_slivers t u.b0 u.b1 (g ∷ gs);
}
unfolding meet
meet_some t u lo hi g gs s = refl
