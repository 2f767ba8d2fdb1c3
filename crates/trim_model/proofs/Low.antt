-- Each live window's lowest value is that of its source over its ends, after every list of candidates. Assumes nothing.
use Prim.Native.Nat.{ℕ, suc}
use mathlib.Core.Bool.{Bool, cond}
use mathlib.Core.List.{List, [], ◌∷◌, ◌++◌}
use mathlib.Core.Path.{◌≡◌, refl, subst}
use lib.Ieee.{Float, le}
use Rattle.source.specs.Distance.{lowest_of}
use Rattle.better.specs.Stretches.{Interval}
use Rattle.trim_model.specs.Intervals.{width, pieces, wide_of}
use Rattle.trim_model.specs.Windows.{Window, fresh, split, sorted}
use Rattle.trim_model.specs.Add.{Better, Walk, before, run, behind, start, untouched, meet, visit, visits, add_to, shared_lo, shared_hi}
use Rattle.trim_model.specs.Model.{Model}
use Rattle.better.specs.Claim.{All}
use Rattle.trim_model.proofs.Ranks.{by_cases}
use Rattle.trim_model.proofs.Lists.{all_append, all_left, all_right}
use Rattle.trim_model.proofs.Windows.{parted, sorted_all}

abbrev pub LowRight : Window → Type 0
LowRight u = u.low ≡ lowest_of u.src u.b0 u.b1

fresh_low : (v : Window) (n : ℕ) (ps : List Interval) → All LowRight (fresh v n ps)
unfolding fresh
fresh_low v n [] = tt
fresh_low v n (p ∷ ps) = (refl, fresh_low v (suc n) ps)

split_low : (u : Window) (n : ℕ) (ps : List Interval) → All LowRight (split u n ps)
unfolding split
split_low u n [] = tt
split_low u n (p ∷ ps) = (refl, fresh_low u n ps)

module _ (better : Better) (t : Float) (w : Window) where
  meet_low : (u : Window) → LowRight u → (lo hi : Float) (gs : List Interval) (s : Walk) → All LowRight s.survivors → All LowRight (meet t u lo hi gs s).survivors
  unfolding meet
  meet_low u k lo hi [] s h = all_append LowRight s.survivors (u ∷ []) h (k, tt)
  meet_low u k lo hi (g ∷ gs) s h = all_append LowRight s.survivors (split u s.made (pieces t u.b0 u.b1 (g ∷ gs))) h (split_low u s.made (pieces t u.b0 u.b1 (g ∷ gs)))

  visits_low : (us : List Window) → All LowRight us → (s : Walk) → All LowRight s.survivors → All LowRight (visits better t w us s).survivors
  unfolding visits visit
  visits_low [] k s h = h
  visits_low (u ∷ us) k s h =
      let lo = shared_lo w u in
      let hi = shared_hi w u in
      visits_low us k.1 (visit better t w u s)
      (by_cases (λ (c : Bool). All LowRight (cond c (untouched u s) (meet t u lo hi (better w.src u.src lo hi) s)).survivors) (le (width lo hi) t)
      (λ y. all_append LowRight s.survivors (u ∷ []) h (k.0, tt))
      (λ n. meet_low u k.0 lo hi (better w.src u.src lo hi) s h))

  pub add_low : (l : List Window) (made : ℕ) → All LowRight l → All LowRight (add_to better t w l made).live
  unfolding add_to
  add_low l made h =
      let s = visits better t w (run t w l) (start w made) in
      let news = fresh w s.made (wide_of t s.keep) in
      let k = subst (All LowRight) (parted t w l) h in
      let r = all_right LowRight (before t w l) (run t w l ++ behind t w l) k in
      all_append LowRight (before t w l) (sorted (s.survivors ++ news) ++ behind t w l) (all_left LowRight (before t w l) (run t w l ++ behind t w l) k)
      (all_append LowRight (sorted (s.survivors ++ news)) (behind t w l)
      (sorted_all LowRight (s.survivors ++ news) (all_append LowRight s.survivors news (visits_low (run t w l) (all_left LowRight (run t w l) (behind t w l) r) (start w made) tt) (fresh_low w s.made (wide_of t s.keep))))
      (all_right LowRight (run t w l) (behind t w l) r))

module _ (better : Better) (limit : Float) (len : ℕ → Float) where
  abbrev Lows : Model → Type 0
  Lows m = (e : ℕ) → All LowRight (m.edge e).live
