-- An addition of an admitted candidate to a tidy list, told as one walk forward: past the windows before the run, over the run, and from its start once more to seat the new windows. Assumes nothing.
use Prim.Native.Nat.{ℕ}
use mathlib.Core.List.{List, ◌++◌}
use mathlib.Core.Path.{◌≡◌, ap, subst}
use lib.Dec.{T}
use lib.Ieee.{Float, lt, le}
use Rattle.float64.specs.Notation.{◌⊕◌}
use Rattle.source.specs.Distance.{lowest_of}
use Rattle.better.specs.Stretches.{better_of}
use Rattle.better.proofs.Stretches.{better_separates}
use Rattle.trim_model.specs.Intervals.{width, tiny_of, wide_of}
use Rattle.trim_model.specs.Windows.{Window, fresh, take_while, drop_while}
use Rattle.trim_model.specs.Add.{Walk, starts_before, passes, run, behind, start, visits, add_to}
use Rattle.trim_model.specs.Model.{Candidate, as_window, admits}
use Rattle.trim_model.specs.Claim.{Proper}
use Rattle.trim_model.proofs.Ranks.{Nonneg, wide_no, tiny_nonneg}
use Rattle.trim_model.proofs.Windows.{Wide}
use Rattle.trim_model.proofs.Order.{Tidy}
use Rattle.trim_model.proofs.Demand3.{stretches}
use Rattle.trim_model.proofs.Model.{not_or}
use Rattle.trim_model.proofs.Forward.{before_is}
use Rattle.trim_model.specs.Seat.{seat_all}
use Rattle.trim_model.proofs.Seat.{add_seated}
use Rattle.trim_model.proofs.Turns.{run_is, behind_is}

-- tiny of a proper candidate's edge is not below zero
pub proper_nonneg : {len : ℕ → Float} (c : Candidate) → Proper len c → Nonneg (tiny_of (len c.edge))
proper_nonneg {len} c p = tiny_nonneg (len c.edge) p.length p.positive

-- an admitted one is wide
pub admitted_wide : (limit : Float) (len : ℕ → Float) (c : Candidate) → Proper len c → T (admits limit len c) → Wide (tiny_of (len c.edge)) (as_window c)
admitted_wide limit len c p y = record {
  point0 = p.start;
  point1 = p.end;
  wide = wide_no (proper_nonneg c p) p.start p.end (not_or (le (width c.b0 c.b1) (tiny_of (len c.edge))) (lt limit (lowest_of c.src c.b0 c.b1)) y);
}

module _ (t : Float) (w : Window) (l : List Window) (made : ℕ) where
  -- what the walk passes
  abbrev pub passed : List Window
  passed = take_while (passes t w.b0) l

  -- what it comes to
  abbrev pub reached : List Window
  reached = drop_while (passes t w.b0) l

  -- what stands behind the run
  abbrev pub beyond : List Window
  beyond = drop_while (starts_before (w.b1 ⊕ t)) reached

  -- the walk over the run
  abbrev pub walked : Walk
  walked = visits better_of t w (take_while (starts_before (w.b1 ⊕ t)) reached) (start w made)

  -- the new windows
  abbrev pub news_of : List Window
  news_of = fresh w walked.made (wide_of t walked.keep)

  abbrev as_before : List Window → List Window → List Window → Walk → Type 0
  as_before pre suf live s = live ≡ seat_all (fresh w s.made (wide_of t s.keep)) pre (s.survivors ++ suf)

  module _ (t0 : Nonneg t) (W : Wide t w) (h : Tidy t l) where
    walked_is : visits better_of t w (run t w l) (start w made) ≡ walked
    walked_is = ap (λ (us : List Window). visits better_of t w us (start w made)) (run_is t w l h)

    -- and that is what the addition leaves
    pub walk_seated : (add_to better_of t w l made).live ≡ seat_all news_of passed (walked.survivors ++ beyond)
    walk_seated =
        let live = (add_to better_of t w l made).live in
        subst (λ (s : Walk). as_before passed beyond live s) walked_is
        (subst (λ (suf : List Window). as_before passed suf live (visits better_of t w (run t w l) (start w made))) (behind_is t w l h)
        (subst (λ (pre : List Window). as_before pre (behind t w l) live (visits better_of t w (run t w l) (start w made))) (before_is t w l h)
        (add_seated t0 (stretches better_separates) W made l h)))
