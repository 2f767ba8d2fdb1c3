-- An addition leaves an edge's live windows tidy: wide, in order, and each wide [x, y] held once at most. Assumes nothing.
--
-- Two windows wider than t that share no more than t are ordered by start exactly as by end, strictly: otherwise one lies in the other, and the wider holds the narrower (`order_of`).
-- So it is enough that starts do not fall, which sorting gives inside the run, and that the run holds every window that shares more than t with the new one: the windows before it end
-- at or below the new one's start, those behind it start at or above its end, because ends and starts rise (`lows_of`, `highs_of`).
use Prim.Native.Nat.{ℕ, ◌+◌, ◌≤◌, ◌<◌, min, max, zero-le}
use mathlib.Core.List.{List, [], ◌∷◌, ◌++◌}
use mathlib.Core.Path.{◌≡◌, sym, ap, ◌∙◌, subst}
use native.Mathlib.Decide.{dec_le}
use native.Mathlib.Nat.{le_refl}
use native.Mathlib.Omega.{arith}
use lib.Dec.{T}
use lib.Ieee.{Float, binary64, add, lt}
use Rattle.trim_model.specs.Intervals.{width, wide_of}
use Rattle.trim_model.specs.Windows.{Window, fresh, sorted, take_while, drop_while}
use Rattle.trim_model.specs.Add.{Better, Walk, starts_before, before, onward, run, behind, start, visits, add_to}
use Rattle.better.specs.Claim.{All, Point}
use Rattle.trim_model.proofs.Ranks.{rank, Nonneg, wide_pos}
use Rattle.trim_model.proofs.Count.{has, has_yes, has_one, view, holding, missing}
use Rattle.trim_model.proofs.Lists.{all_map, all_map2, all_append, all_left, all_right, take_drop}
use Rattle.trim_model.proofs.Intervals.{count, rise_count}
use Rattle.trim_model.proofs.Windows.{fresh_all, wcount, wcount_append, fresh_count, sorted_count, wcount_low, wcount_high, counted, parted, Ordered, steps_all, ordered_left, ordered_right, ordered_cross, From, from_append, from_nil, ordered_from, Wide, Fine, FineWindow, sorted_all, sorted_from, before_low, behind_high}
use Rattle.trim_model.proofs.Run.{Stretches, WalkOk, wide_fine, wide_count, visits_walk, visits_counts}

-- each [x, y] wider than t is held by one window of l at most
abbrev pub Lone : Float → List Window → Type 0
Lone t l = (x y : Float) → Point x → Point y → T (lt t (width x y)) → wcount (rank x) (rank y) l ≤ 1

pub record Tidy (t : Float) (l : List Window) : Type 0 where
  pub wides : All (Wide t) l
  pub ordered : Ordered l
  pub lone : Lone t l

-- each window of l holds itself
pub each_holds : (l : List Window) → All (λ (q : Window). 1 ≤ wcount (rank q.b0) (rank q.b1) l) l
each_holds l = all_map (λ q c. omega (arith, c (rank q.b0) (rank q.b1), has_yes (rank q.b0) (rank q.b1) (le_refl (rank q.b0)) (le_refl (rank q.b1)))) l (counted l l (λ X Y. le_refl (wcount X Y l)))

-- the highest end
unfoldable pub top : List Window → ℕ
top [] = 0
top (u ∷ us) = max (rank u.b1) (top us)

pub all_top : (l : List Window) (M : ℕ) → top l ≤ M → All (λ (u : Window). rank u.b1 ≤ M) l
unfolding top
all_top [] M h = tt
all_top (u ∷ us) M h = (omega arith, all_top us M (omega arith))

module _ {t : Float} (t0 : Nonneg t) where
  order_of : (p : ℕ) (l : List Window) → From p l → All (Wide t) l → Lone t l → Ordered l
  unfolding wcount
  order_of p [] h s a = tt
  order_of p (u ∷ []) h s a = tt
  order_of p (u ∷ v ∷ vs) h s a =
      let su = s.0 in
      let sv = s.1.0 in
      let i = h.1.0 in
      let ends : rank u.b1 < rank v.b1 = elim (dec_le (rank v.b1) (rank u.b1)) [
        | yes k ↦ let y : ⊥ = omega (arith, a v.b0 v.b1 sv.point0 sv.point1 sv.wide, has_yes (rank v.b0) (rank v.b1) {a = rank u.b0} {b = rank u.b1} i k, has_yes (rank v.b0) (rank v.b1) (le_refl (rank v.b0)) (le_refl (rank v.b1))) in absurd y
        | no f ↦ omega arith
      ] in
      let starts : rank u.b0 < rank v.b0 = elim (dec_le (rank v.b0) (rank u.b0)) [
        | yes k ↦ let e : rank u.b1 ≤ rank v.b1 = omega arith in let y : ⊥ = omega (arith, a u.b0 u.b1 su.point0 su.point1 su.wide, has_yes (rank u.b0) (rank u.b1) {a = rank v.b0} {b = rank v.b1} k e, has_yes (rank u.b0) (rank u.b1) (le_refl (rank u.b0)) (le_refl (rank u.b1))) in absurd y
        | no f ↦ omega arith
      ] in
      (starts, ends, order_of (rank u.b0) (v ∷ vs) h.1 s.1 (λ x y gx gy z. omega (arith, a x y gx gy z)))

  pub fine_of : (m M : ℕ) (l : List Window) → All (Wide t) l → All (λ (u : Window). m ≤ rank u.b0) l → All (λ (u : Window). rank u.b1 ≤ M) l → All (FineWindow t m M) l
  fine_of m M [] s a b = tt
  fine_of m M (u ∷ us) s a b = (record { point0 = s.0.point0; point1 = s.0.point1; wide = s.0.wide; low = a.0; high = b.0 }, fine_of m M us s.1 a.1 b.1)

  wide_of_lem : (m M : ℕ) (u : Window) → FineWindow t m M u → Wide t u
  wide_of_lem m M u f = record { point0 = f.point0; point1 = f.point1; wide = f.wide }

  module _ {better : Better} (B : Stretches better) {w : Window} (W : Wide t w) (made : ℕ) where
    abbrev pub walked : List Window → Walk
    walked rn = visits better t w rn (start w made)

    abbrev pub news : List Window → List Window
    news rn = fresh w (walked rn).made (wide_of t (walked rn).keep)

    abbrev mid : List Window → List Window
    mid rn = (walked rn).survivors ++ news rn

    w01 : rank w.b0 < rank w.b1
    w01 = wide_pos t0 W.point0 W.point1 W.wide

    pub start_ok : (m M : ℕ) → WalkOk t w m M (start w made)
    start_ok m M = record { rise = (record { point0 = W.point0; point1 = W.point1; above = le_refl (rank w.b0); rises = w01 }, le_refl (rank w.b1)); fine = tt }

    pub walked_ok : (m M : ℕ) (rn : List Window) → All (FineWindow t m M) rn → WalkOk t w m M (walked rn)
    walked_ok m M rn f = visits_walk t0 B W m M rn f (start w made) (start_ok m M)

    pub news_fine : (m M : ℕ) (rn : List Window) → All (FineWindow t m M) rn → All (FineWindow t (rank w.b0) (rank w.b1)) (news rn)
    news_fine m M rn f = fresh_all (Fine t (rank w.b0) (rank w.b1)) w (walked rn).made (wide_of t (walked rn).keep) (wide_fine t0 (rank w.b0) (rank w.b1) (rank w.b0) (walked rn).keep (rank w.b1) (le_refl (rank w.b0)) (le_refl (rank w.b1)) (walked_ok m M rn f).rise)

    record Ended (rn : List Window) (X Y : ℕ) : Type 0 where
      olds : wcount X Y (walked rn).survivors ≤ wcount X Y rn
      both : wcount X Y (mid rn) ≤ 1
      news_in : wcount X Y (news rn) ≤ has X Y (rank w.b0) (rank w.b1)
      is : wcount X Y (mid rn) ≡ wcount X Y (walked rn).survivors + wcount X Y (news rn)

    ended : (m M : ℕ) (rn : List Window) → All (FineWindow t m M) rn → (x y : Float) → Point x → Point y → T (lt t (width x y)) → wcount (rank x) (rank y) rn ≤ 1 → Ended rn (rank x) (rank y)
    unfolding wcount count
    ended m M rn f x y gx gy wide one =
        let X = rank x in
        let Y = rank y in
        let xy = wide_pos t0 gx gy wide in
        let k = walked_ok m M rn f in
        let v = visits_counts t0 B W m M x y gx gy wide rn f (start w made) (start_ok m M) (omega arith) (omega (arith, has_one X Y (rank w.b0) (rank w.b1))) in
        let a = wcount_append X Y (walked rn).survivors (news rn) in
        let b = fresh_count X Y w (walked rn).made (wide_of t (walked rn).keep) in
        let c = wide_count t0 X Y (walked rn).keep in
        let d = rise_count X Y xy (rank w.b0) (walked rn).keep (rank w.b1) k.rise in
        let va = v.added in
        let vb = v.apart in
        record { olds = omega arith; both = omega arith; news_in = omega arith; is = a }

    -- the list, parted as `add` parts it
    module _ (pre rn suf : List Window) (tidy : Tidy t (pre ++ (rn ++ suf))) (lows : All (λ (u : Window). rank u.b1 ≤ rank w.b0) pre) (highs : All (λ (u : Window). rank w.b1 ≤ rank u.b0) suf) where
      s_pre : All (Wide t) pre
      s_pre = all_left (Wide t) pre (rn ++ suf) tidy.wides

      s_rn : All (Wide t) rn
      s_rn = all_left (Wide t) rn suf (all_right (Wide t) pre (rn ++ suf) tidy.wides)

      s_suf : All (Wide t) suf
      s_suf = all_right (Wide t) rn suf (all_right (Wide t) pre (rn ++ suf) tidy.wides)

      o_rest : Ordered (rn ++ suf)
      o_rest = ordered_right pre (rn ++ suf) tidy.ordered

      -- below every start of the run and of the new window
      low : List Window → ℕ
      low [] = rank w.b0
      low (r ∷ rs) = min (rank w.b0) (rank r.b0)

      low_w : (l : List Window) → low l ≤ rank w.b0
      unfolding low
      low_w [] = omega arith
      low_w (r ∷ rs) = omega arith

      low_rn : (l : List Window) → Ordered l → All (λ (u : Window). low l ≤ rank u.b0) l
      unfolding low
      low_rn [] o = tt
      low_rn (r ∷ rs) o = (omega arith, all_map (λ x k. let a = k.0 in omega arith) rs (steps_all r rs o))

      low_pre : (l : List Window) → Ordered (pre ++ (l ++ suf)) → All (λ (u : Window). rank u.b0 ≤ low l) pre
      unfolding low
      low_pre [] o = all_map2 (λ x s i. let p = wide_pos t0 s.point0 s.point1 s.wide in omega arith) pre s_pre lows
      low_pre (r ∷ rs) o = all_map2 (λ x i k. let j = k.0 in omega arith) pre (all_map2 (λ x s i. let p = wide_pos t0 s.point0 s.point1 s.wide in let c : rank x.b0 ≤ rank w.b0 = omega arith in c) pre s_pre lows) (ordered_cross pre r (rs ++ suf) o)

      fine_rn : (M : ℕ) → All (λ (u : Window). rank u.b1 ≤ M) rn → All (FineWindow t (low rn) M) rn
      fine_rn M h = fine_of (low rn) M rn s_rn (low_rn rn (ordered_left rn suf o_rest)) h

      -- the whole list once more
      abbrev left : List Window
      left = pre ++ (sorted (mid rn) ++ suf)

      counts : (X Y : ℕ) → wcount X Y left ≡ wcount X Y pre + (wcount X Y (mid rn) + wcount X Y suf)
      counts X Y = omega (arith, wcount_append X Y pre (sorted (mid rn) ++ suf), wcount_append X Y (sorted (mid rn)) suf, sorted_count X Y (mid rn))

      olds : (X Y : ℕ) → wcount X Y (pre ++ (rn ++ suf)) ≡ wcount X Y pre + (wcount X Y rn + wcount X Y suf)
      olds X Y = omega (arith, wcount_append X Y pre (rn ++ suf), wcount_append X Y rn suf)

      left_lone : Lone t left
      left_lone x y gx gy wide =
          let X = rank x in
          let Y = rank y in
          let xy = wide_pos t0 gx gy wide in
          let one = tidy.lone x y gx gy wide in
          let o = olds X Y in
          let c = counts X Y in
          let z : wcount X Y rn ≤ 1 = omega arith in
          let e = ended (low rn) (top rn) rn (fine_rn (top rn) (all_top rn (top rn) (le_refl (top rn)))) x y gx gy wide z in
          let e1 = e.olds in
          let e2 = e.both in
          let e3 = e.news_in in
          let e4 = e.is in
          elim (view X Y (rank w.b0) (rank w.b1)) [
            | missing f q ↦ omega arith
            | holding a b q ↦
                let i : rank w.b0 < Y = omega arith in
                let j : X < rank w.b1 = omega arith in
                omega (arith, wcount_low X Y (rank w.b0) pre i lows, wcount_high X Y (rank w.b1) suf j highs)
          ]

      mid_wide : All (Wide t) (mid rn)
      mid_wide =
          let f = fine_rn (top rn) (all_top rn (top rn) (le_refl (top rn))) in
          all_append (Wide t) (walked rn).survivors (news rn) (all_map (wide_of_lem (low rn) (top rn)) (walked rn).survivors (walked_ok (low rn) (top rn) rn f).fine) (all_map (wide_of_lem (rank w.b0) (rank w.b1)) (news rn) (news_fine (low rn) (top rn) rn f))

      left_wide : All (Wide t) left
      left_wide = all_append (Wide t) pre (sorted (mid rn) ++ suf) s_pre (all_append (Wide t) (sorted (mid rn)) suf (sorted_all (Wide t) (mid rn) mid_wide) s_suf)

      mid_low : All (λ (u : Window). low rn ≤ rank u.b0) (mid rn)
      mid_low =
          let f = fine_rn (top rn) (all_top rn (top rn) (le_refl (top rn))) in
          let i = low_w rn in
          all_append (λ (u : Window). low rn ≤ rank u.b0) (walked rn).survivors (news rn) (all_map (λ x k. k.low) (walked rn).survivors (walked_ok (low rn) (top rn) rn f).fine) (all_map (λ x k. let j = k.low in omega arith) (news rn) (news_fine (low rn) (top rn) rn f))

      sorted_mid : From (low rn) (sorted (mid rn))
      sorted_mid = sorted_from (low rn) (mid rn) (all_map (λ x k. k.point0) (mid rn) mid_wide) mid_low

      from_pre : (m : List Window) → From (low rn) m → From 0 (pre ++ m)
      from_pre m h = from_append 0 (low rn) pre m zero-le (ordered_from pre (ordered_left pre (rn ++ suf) tidy.ordered)) (low_pre rn tidy.ordered) h

    -- no start of the middle lies above the first start behind it
    module _ (pre rn : List Window) (v : Window) (vs : List Window) (tidy : Tidy t (pre ++ (rn ++ (v ∷ vs)))) (lows : All (λ (u : Window). rank u.b1 ≤ rank w.b0) pre) (highs : All (λ (u : Window). rank w.b1 ≤ rank u.b0) (v ∷ vs)) where
      mid_high : All (λ (u : Window). rank u.b0 ≤ rank v.b0) (mid rn)
      unfolding wcount
      mid_high =
          let o = ordered_right pre (rn ++ (v ∷ vs)) tidy.ordered in
          let f = fine_rn pre rn (v ∷ vs) tidy lows highs (rank v.b1) (all_map (λ x k. let j = k.1 in omega arith) rn (ordered_cross rn v vs o)) in
          let m = low pre rn (v ∷ vs) tidy lows highs rn in
          all_append (λ (u : Window). rank u.b0 ≤ rank v.b0) (walked rn).survivors (news rn)
          (all_map2
          (λ (q : Window) (g : FineWindow t m (rank v.b1) q) (self : 1 ≤ wcount (rank q.b0) (rank q.b1) (walked rn).survivors).
          elim (dec_le (rank q.b0) (rank v.b0)) [
            | yes h ↦ h
            | no h ↦
                let i : rank v.b0 ≤ rank q.b0 = omega arith in
                let one = tidy.lone q.b0 q.b1 g.point0 g.point1 g.wide in
                let c = olds pre rn (v ∷ vs) tidy lows highs (rank q.b0) (rank q.b1) in
                let z : wcount (rank q.b0) (rank q.b1) rn ≤ 1 = omega arith in
                let e = (ended m (rank v.b1) rn f q.b0 q.b1 g.point0 g.point1 g.wide z).olds in
                let y : ⊥ = omega (arith, has_yes (rank q.b0) (rank q.b1) {a = rank v.b0} {b = rank v.b1} i g.high) in
                absurd y
          ])
          (walked rn).survivors (walked_ok m (rank v.b1) rn f).fine (each_holds (walked rn).survivors))
          (all_map (λ q k. let p = wide_pos t0 k.point0 k.point1 k.wide in let j = k.high in let i = highs.0 in omega arith) (news rn) (news_fine m (rank v.b1) rn f))

    left_from : (pre rn suf : List Window) (tidy : Tidy t (pre ++ (rn ++ suf))) (lows : All (λ (u : Window). rank u.b1 ≤ rank w.b0) pre) (highs : All (λ (u : Window). rank w.b1 ≤ rank u.b0) suf) → From 0 (pre ++ (sorted (mid rn) ++ suf))
    left_from pre rn [] tidy lows highs = from_pre pre rn [] tidy lows highs (sorted (mid rn) ++ []) (from_nil (low pre rn [] tidy lows highs rn) (sorted (mid rn)) (sorted_mid pre rn [] tidy lows highs))
    left_from pre rn (v ∷ vs) tidy lows highs =
        let i = low_w pre rn (v ∷ vs) tidy lows highs rn in
        let j = highs.0 in
        let k = w01 in
        let o = ordered_right rn (v ∷ vs) (ordered_right pre (rn ++ (v ∷ vs)) tidy.ordered) in
        from_pre pre rn (v ∷ vs) tidy lows highs (sorted (mid rn) ++ (v ∷ vs))
        (from_append (low pre rn (v ∷ vs) tidy lows highs rn) (rank v.b0) (sorted (mid rn)) (v ∷ vs) (omega arith) (sorted_mid pre rn (v ∷ vs) tidy lows highs)
        (sorted_all (λ (u : Window). rank u.b0 ≤ rank v.b0) (mid rn) (mid_high pre rn v vs tidy lows highs))
        (le_refl (rank v.b0), (ordered_from (v ∷ vs) o).1))

    left_tidy : (pre rn suf : List Window) (tidy : Tidy t (pre ++ (rn ++ suf))) (lows : All (λ (u : Window). rank u.b1 ≤ rank w.b0) pre) (highs : All (λ (u : Window). rank w.b1 ≤ rank u.b0) suf) → Tidy t (pre ++ (sorted (mid rn) ++ suf))
    left_tidy pre rn suf tidy lows highs =
        let s = left_wide pre rn suf tidy lows highs in
        let a = left_lone pre rn suf tidy lows highs in
        record { wides = s; ordered = order_of 0 (pre ++ (sorted (mid rn) ++ suf)) (left_from pre rn suf tidy lows highs) s a; lone = a }

    -- ---- the sides of the run
    pub lows_of : (l : List Window) → Tidy t l → All (λ (u : Window). rank u.b1 ≤ rank w.b0) (before t w l)
    lows_of l h =
        let e = take_drop (starts_before w.b0) l in
        let o = subst (Ordered) (sym e) h.ordered in
        let s = subst (All (Wide t)) (sym e) h.wides in
        before_low t0 w.b0 W.point0 (take_while (starts_before w.b0) l) (all_left (Wide t) (take_while (starts_before w.b0) l) (drop_while (starts_before w.b0) l) s) (ordered_left (take_while (starts_before w.b0) l) (drop_while (starts_before w.b0) l) o)

    pub highs_of : (l : List Window) → Tidy t l → All (λ (u : Window). rank w.b1 ≤ rank u.b0) (behind t w l)
    highs_of l h =
        let e = parted t w l ∙ ap (λ (m : List Window). before t w l ++ m) (take_drop (starts_before (add binary64 w.b1 t)) (onward t w l)) in
        let o = subst (Ordered) e h.ordered in
        let s = subst (All (Wide t)) e h.wides in
        behind_high t0 w.b1 W.point1 (onward t w l) (all_right (Wide t) (before t w l) (onward t w l) s) (ordered_right (before t w l) (onward t w l) o)

    pub add_tidy : (l : List Window) → Tidy t l → Tidy t (add_to better t w l made).live
    unfolding add_to
    add_tidy l h = left_tidy (before t w l) (run t w l) (behind t w l) (subst (Tidy t) (parted t w l) h) (lows_of l h) (highs_of l h)

    -- the run's windows, for the walk
    pub run_fine : (l : List Window) → Tidy t l → All (FineWindow t 0 (top (run t w l))) (run t w l)
    run_fine l h =
        let rn = run t w l in
        let s = all_left (Wide t) rn (behind t w l) (all_right (Wide t) (before t w l) (rn ++ behind t w l) (subst (All (Wide t)) (parted t w l) h.wides)) in
        fine_of 0 (top rn) rn s (all_map (λ u k. zero-le) rn s) (all_top rn (top rn) (le_refl (top rn)))
