-- An addition done in place: the run's windows are replaced by their pieces, and the new windows are set in one by one, each by its start. Assumes nothing.
--
-- The survivors' starts rise already, since each window's pieces lie between its ends, and a piece that ended behind the next window's end would hold it (`visits_from`). So sorting moves
-- only the new windows; and no window before the run starts behind them, none behind it before them.
use Prim.Native.Nat.{ℕ, suc, ◌+◌, ◌≤◌, ◌<◌, zero-le}
use mathlib.Core.Bool.{Bool, cond}
use mathlib.Core.List.{List, [], ◌∷◌, ◌++◌}
use mathlib.Core.Path.{◌≡◌, refl, sym, ap, ◌∙◌, subst}
use native.Mathlib.Decide.{dec_le}
use native.Mathlib.Nat.{le_refl, le_trans}
use native.Mathlib.Omega.{arith}
use lib.Dec.{T}
use lib.Ieee.{Float, lt, le}
use Rattle.float64.specs.Scalar.{max_of}
use Rattle.better.specs.Stretches.{Interval, interval}
use Rattle.trim_model.specs.Intervals.{width, pieces, wide_of}
use Rattle.trim_model.specs.Windows.{Window, fresh, split, sorted}
use Rattle.trim_model.specs.Add.{Better, Walk, before, run, behind, start, untouched, meet, visit, visits, add_to, shared_lo, shared_hi}
use Rattle.better.specs.Claim.{All, Pairs, Point}
use Rattle.trim_model.proofs.Ranks.{rank, max_point, max_rank, Nonneg, wide_pos, by_cases}
use Rattle.trim_model.proofs.Count.{has_yes}
use Rattle.trim_model.proofs.Lists.{all_map, all_map2, all_append, all_left, all_right}
use Rattle.trim_model.proofs.Intervals.{Rise}
use Rattle.trim_model.proofs.Windows.{split_all, wcount, wcount_append, parted, Steps, Ordered, ordered_left, ordered_right, From, from_append, Wide, FineWindow}
use Rattle.trim_model.proofs.Run.{Stretches, shared, inside, WalkOk, pieces_fine, met, visit_walk, visit_counts}
use Rattle.trim_model.proofs.Order.{Tidy, each_holds, top, start_ok, news_fine, lows_of, highs_of, add_tidy, run_fine}
use Rattle.trim_model.proofs.Insertion.{insert_all, Start, Differ, sorted_back, sorted_differ, ordered_differ, pairs_left, sorted_self, sorted_is, insert_all_mid}

-- intervals whose starts do not fall, from p on
abbrev StartsFrom : ℕ → List Interval → Type 0
StartsFrom p [] = Unit {0}
StartsFrom p (k ∷ ks) = (p ≤ rank k.from) × StartsFrom (rank k.from) ks

starts_from : (p p' : ℕ) (l : List Interval) → p' ≤ p → StartsFrom p l → StartsFrom p' l
starts_from p p' [] i h = tt
starts_from p p' (k ∷ ks) i h = (le_trans i h.0, h.1)

pieces_from_lem : (t at b1 : Float) → Point at → Point b1 → (gs : List Interval) → Rise (rank at) gs (rank b1) → StartsFrom (rank at) (pieces t at b1 gs)
unfolding pieces
pieces_from_lem t at b1 ga gb [] h = by_cases (λ (c : Bool). StartsFrom (rank at) (cond c (interval at b1 ∷ []) [])) (lt t (width at b1)) (λ y. (le_refl (rank at), tt)) (λ n. tt)
pieces_from_lem t at b1 ga gb (g ∷ gs) h =
    let s = h.0 in
    let e = max_rank ga s.point1 in
    let f : rank (max_of at g.to) ≡ rank g.to = omega arith in
    let r = pieces_from_lem t (max_of at g.to) b1 (max_point ga s.point1) gb gs (subst (λ (n : ℕ). Rise n gs (rank b1)) (sym f) h.1) in
    let r' = starts_from (rank (max_of at g.to)) (rank at) (pieces t (max_of at g.to) b1 gs) (omega arith) r in
    by_cases (λ (c : Bool). StartsFrom (rank at) (cond c (interval at g.from ∷ []) [] ++ pieces t (max_of at g.to) b1 gs)) (lt t (width at g.from)) (λ y. (le_refl (rank at), r')) (λ n. r')

-- ---- the survivors' starts rise
fresh_from : (p : ℕ) (v : Window) (n : ℕ) (ps : List Interval) → StartsFrom p ps → From p (fresh v n ps)
unfolding fresh
fresh_from p v n [] h = tt
fresh_from p v n (k ∷ ks) h = (h.0, fresh_from (rank k.from) v (suc n) ks h.1)

split_from : (p : ℕ) (u : Window) (n : ℕ) (ps : List Interval) → StartsFrom p ps → From p (split u n ps)
unfolding split
split_from p u n [] h = tt
split_from p u n (k ∷ ks) h = (h.0, fresh_from (rank k.from) u n ks h.1)

module _ {t : Float} (t0 : Nonneg t) where
  module _ {better : Better} (B : Stretches better) {w : Window} (W : Wide t w) (m M : ℕ) where
    -- what a visit adds to the survivors
    record Shape (u : Window) (s s' : Walk) : Type 0 where
      more : List Window
      is : s'.survivors ≡ s.survivors ++ more
      from : From (rank u.b0) more
      ends : All (λ (q : Window). rank q.b1 ≤ rank u.b1) more

    meet_shape : (u : Window) → FineWindow t m M u → (gs : List Interval) → Rise (rank (shared_lo w u)) gs (rank (shared_hi w u)) → (s : Walk) → Shape u s (meet t u (shared_lo w u) (shared_hi w u) gs s)
    unfolding meet
    meet_shape u f [] R s = record { more = u ∷ []; is = refl; from = (le_refl (rank u.b0), tt); ends = (le_refl (rank u.b1), tt) }
    meet_shape u f (g ∷ gs) R s =
        let ps = pieces t u.b0 u.b1 (g ∷ gs) in
        let I = inside (shared W u f) (g ∷ gs) R in
        record {
          more = split u s.made ps;
          is = refl;
          from = split_from (rank u.b0) u s.made ps (pieces_from_lem t u.b0 u.b1 f.point0 f.point1 (g ∷ gs) I);
          ends = split_all (λ a b. rank b ≤ rank u.b1) u s.made ps (all_map (λ k e. e.high) ps (pieces_fine t0 (rank u.b0) (rank u.b1) u.b0 u.b1 f.point0 f.point1 (le_refl (rank u.b0)) (le_refl (rank u.b1)) (g ∷ gs) I));
        }

    visit_shape : (u : Window) → FineWindow t m M u → (s : Walk) → Shape u s (visit better t w u s)
    unfolding visit
    visit_shape u f s =
        let lo = shared_lo w u in
        let hi = shared_hi w u in
        let h = shared W u f in
        by_cases (λ (c : Bool). Shape u s (cond c (untouched u s) (meet t u lo hi (better w.src u.src lo hi) s))) (le (width lo hi) t)
        (λ y. record { more = u ∷ []; is = refl; from = (le_refl (rank u.b0), tt); ends = (le_refl (rank u.b1), tt) })
        (λ n. meet_shape u f (better w.src u.src lo hi) (B.rising w.src u.src lo hi h.point_lo h.point_hi (met t0 B W m M u f n)) s)

    abbrev Upto : List Window → Walk → Type 0
    Upto [] s = Unit {0}
    Upto (u ∷ us) s = All (λ (q : Window). rank q.b1 ≤ rank u.b1) s.survivors

    pub visits_from : (us : List Window) → All (FineWindow t m M) us → Ordered us → (s : Walk) → WalkOk t w m M s
        → ((x y : Float) → Point x → Point y → T (lt t (width x y)) → wcount (rank x) (rank y) s.survivors + wcount (rank x) (rank y) us ≤ 1)
        → From 0 s.survivors → Upto us s → From 0 (visits better t w us s).survivors
    unfolding visits wcount
    visits_from [] f o s k a F e = F
    visits_from (u ∷ us) f o s k a F e =
        let S = s.survivors in
        let h = visit_shape u f.0 s in
        let below = all_map2
        (λ (q : Window) (x : FineWindow t m M q × (rank q.b1 ≤ rank u.b1)) (c : 1 ≤ wcount (rank q.b0) (rank q.b1) S).
        let x1 = x.1 in
        under q u.b0 (λ i. let z = has_yes (rank q.b0) (rank q.b1) {a = rank u.b0} {b = rank u.b1} i x1 in let y : ⊥ = omega (arith, a q.b0 q.b1 x.0.point0 x.0.point1 x.0.wide) in y))
        S (all_map2 (λ q x y. both q x y) S k.fine e) (each_holds S) in
        let F' = subst (From 0) (sym h.is) (from_append 0 (rank u.b0) S h.more zero-le F below h.from) in
        let e' = subst (All (λ (q : Window). rank q.b1 ≤ rank u.b1)) (sym h.is) (all_append (λ (q : Window). rank q.b1 ≤ rank u.b1) S h.more e h.ends) in
        visits_from us f.1 (ordered_right (u ∷ []) us o) (visit better t w u s) (visit_walk t0 B W m M u f.0 s k)
        (λ x y gx gy wd. omega (arith, (visit_counts t0 B W m M x y gx gy wd u f.0 s k).added, a x y gx gy wd)) F' (upto us o (visit better t w u s) e')
      where
        both : (q : Window) → FineWindow t m M q → rank q.b1 ≤ rank u.b1 → FineWindow t m M q × (rank q.b1 ≤ rank u.b1)
        both q x y = (x, y)

        under : (q : Window) (b : Float) → (rank b ≤ rank q.b0 → ⊥) → rank q.b0 ≤ rank b
        under q b h = elim (dec_le (rank b) (rank q.b0)) [ yes i ↦ absurd (h i) | no g ↦ omega arith ]

        upto : (us : List Window) → Steps u us → (s' : Walk) → All (λ (q : Window). rank q.b1 ≤ rank u.b1) s'.survivors → Upto us s'
        upto [] o s' h = tt
        upto (v ∷ vs) o s' h = let i = o.1 in all_map (λ q j. omega arith) s'.survivors h

  module _ {better : Better} (B : Stretches better) {w : Window} (W : Wide t w) (made : ℕ) where
    abbrev pub ended : List Window → Walk
    ended l = visits better t w (run t w l) (start w made)

    -- the addition, done in place
    pub add_in_place : (l : List Window) → Tidy t l → (add_to better t w l made).live ≡ insert_all (fresh w (ended l).made (wide_of t (ended l).keep)) (before t w l ++ ((ended l).survivors ++ behind t w l))
    unfolding add_to wcount
    add_in_place l h = ap (λ (m : List Window). pre ++ (m ++ suf)) (sorted_is S ns (all_left Start S ns st) (all_right Start S ns st) d ∙ ap (insert_all ns) (sorted_self 0 S (all_left Start S ns st) F (pairs_left S ns d))) ∙ sym (insert_all_mid ns pre S suf (all_right Start S ns st) lows highs)
      where
        pre : List Window
        pre = before t w l

        suf : List Window
        suf = behind t w l

        rn : List Window
        rn = run t w l

        M : ℕ
        M = top rn

        S : List Window
        S = (ended l).survivors

        ns : List Window
        ns = fresh w (ended l).made (wide_of t (ended l).keep)

        td : Tidy t (pre ++ (sorted (S ++ ns) ++ suf))
        td = add_tidy t0 B W made l h

        old : Tidy t (pre ++ (rn ++ suf))
        old = subst (Tidy t) (parted t w l) h

        d : Pairs Differ (S ++ ns)
        d = sorted_differ (S ++ ns) (ordered_differ (sorted (S ++ ns)) (ordered_left (sorted (S ++ ns)) suf (ordered_right pre (sorted (S ++ ns) ++ suf) td.ordered)))

        st : All Start (S ++ ns)
        st = all_map (λ u k. k.point0) (S ++ ns) (sorted_back (Wide t) (S ++ ns) (all_left (Wide t) (sorted (S ++ ns)) suf (all_right (Wide t) pre (sorted (S ++ ns) ++ suf) td.wides)))

        one : (x y : Float) → Point x → Point y → T (lt t (width x y)) → 0 + wcount (rank x) (rank y) rn ≤ 1
        one x y gx gy wd = omega (arith, old.lone x y gx gy wd, wcount_append (rank x) (rank y) pre (rn ++ suf), wcount_append (rank x) (rank y) rn suf)

        F : From 0 S
        F = visits_from B W 0 M rn (run_fine t0 B W made l h) (ordered_left rn suf (ordered_right pre (rn ++ suf) old.ordered)) (start w made) (start_ok t0 B W made 0 M) one tt (nothing rn)
          where
            nothing : (us : List Window) → Upto B W 0 M us (start w made)
            nothing [] = tt
            nothing (u ∷ us) = tt

        nf : All (FineWindow t (rank w.b0) (rank w.b1)) ns
        nf = news_fine t0 B W made 0 M rn (run_fine t0 B W made l h)

        lows : All (λ (n : Window). All (λ (u : Window). Start u × (rank u.b0 < rank n.b0)) pre) ns
        lows = all_map (λ n k. all_map2 (λ u s i. let p = wide_pos t0 s.point0 s.point1 s.wide in let j = k.low in (s.point0, omega arith)) pre (all_left (Wide t) pre (rn ++ suf) old.wides) (lows_of t0 B W made l h)) ns nf

        highs : All (λ (n : Window). All (λ (u : Window). Start u × (rank n.b0 < rank u.b0)) suf) ns
        highs = all_map (λ n k. all_map2 (λ u s i. let p = wide_pos t0 k.point0 k.point1 k.wide in let j = k.high in (s.point0, omega arith)) suf (all_right (Wide t) rn suf (all_right (Wide t) pre (rn ++ suf) old.wides)) (highs_of t0 B W made l h)) ns nf
