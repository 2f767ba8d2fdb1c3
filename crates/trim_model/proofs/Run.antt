-- The loop over the run keeps an invariant: `keep` rises, its windows are wide, and no two intervals hold one wide [x, y]. Assumes nothing.
--
-- That two windows share no more than t is said by counting: for each [x, y] wider than t, at most one live window holds it. Counts of lists add up, so append, sort and splice keep
-- the claim at once. One turn of the loop takes an existing window u: its pieces and the stretches lie beside each other in u, and inside the shared interval `keep` holds [x, y] only
-- where a stretch does. So pieces of u and `keep` together hold [x, y] at most once (`apart_of`), and neither count grows otherwise.
use Prim.Native.Nat.{ℕ, zero, suc, ◌+◌, ◌≤◌, ◌<◌, min, max}
use mathlib.Core.Bool.{Bool, not, cond}
use mathlib.Core.List.{List, [], ◌∷◌}
use mathlib.Core.Path.{◌≡◌, refl, sym, subst}
use native.Mathlib.Nat.{le_refl, le_trans}
use native.Mathlib.Omega.{arith}
use lib.Dec.{T}
use lib.Ieee.{Float, lt, le}
use Rattle.float64.specs.Scalar.{max_of}
use Rattle.source.specs.declared.Src.{Src}
use Rattle.better.specs.Stretches.{Interval, interval}
use Rattle.trim_model.specs.Intervals.{width, push_if, next, pieces, wide_of}
use Rattle.trim_model.specs.Windows.{Window, split}
use Rattle.trim_model.specs.Add.{Better, Walk, untouched, meet, visit, visits, shared_lo, shared_hi}
use Rattle.better.specs.Claim.{All, Point}
use Rattle.trim_model.proofs.Ranks.{rank, max_point, max_rank, min_point, min_rank, Nonneg, wide_pos, wide_no, wide_mono, slim, by_cases}
use Rattle.trim_model.proofs.Count.{has, has_one, view, holding, missing}
use Rattle.trim_model.proofs.Lists.{all_append}
use Rattle.trim_model.proofs.Intervals.{Rise, Gaps, rise_le, rise_start, count, count_append, count_if, rise_count, next_rise, next_count, next_none, pieces_count}
use Rattle.trim_model.proofs.Windows.{split_all, wcount, wcount_append, split_count, Wide, Fine, FineInterval, FineWindow}

pub rise_end : (p : ℕ) (l : List Interval) (q q' : ℕ) → q ≤ q' → Rise p l q → Rise p l q'
rise_end p [] q q' i h = le_trans h i
rise_end p (k ∷ ks) q q' i h = (h.0, rise_end (rank k.to) ks q q' i h.1)

abbrev pub Spaced : List Interval → Type 0
Spaced [] = Unit {0}
Spaced (g ∷ gs) = Gaps (rank g.to) gs

-- what is asked of `better`: its stretches rise inside [lo, hi], with ground between two of them
pub record Stretches (better : Better) : Type 0 where
  pub rising : (p q : Src) (lo hi : Float) → Point lo → Point hi → rank lo < rank hi → Rise (rank lo) (better p q lo hi) (rank hi)
  pub spaced : (p q : Src) (lo hi : Float) → Point lo → Point hi → rank lo < rank hi → Spaced (better p q lo hi)

-- the part that u and w share
pub record Shared (w u : Window) : Type 0 where
  pub point_lo : Point (shared_lo w u)
  pub point_hi : Point (shared_hi w u)
  pub rank_lo : rank (shared_lo w u) ≡ max (rank u.b0) (rank w.b0)
  pub rank_hi : rank (shared_hi w u) ≡ min (rank u.b1) (rank w.b1)

pub shared : {t : Float} {w : Window} → Wide t w → {m M : ℕ} (u : Window) → FineWindow t m M u → Shared w u
shared W u f = record { point_lo = max_point f.point0 W.point0; point_hi = min_point f.point1 W.point1; rank_lo = max_rank f.point0 W.point0; rank_hi = min_rank f.point1 W.point1 }

-- stretches inside [lo, hi] lie inside u
pub inside : {w u : Window} → Shared w u → (gs : List Interval) → Rise (rank (shared_lo w u)) gs (rank (shared_hi w u)) → Rise (rank u.b0) gs (rank u.b1)
inside {w} {u} h gs R =
    let a = h.rank_lo in
    let b = h.rank_hi in
    rise_end (rank u.b0) gs (rank (shared_hi w u)) (rank u.b1) (omega arith) (rise_start (rank (shared_lo w u)) (rank u.b0) gs (rank (shared_hi w u)) (omega arith) R)

-- the invariant: what the walk keeps of w rises inside w, and its windows are fine
pub record WalkOk (t : Float) (w : Window) (m M : ℕ) (s : Walk) : Type 0 where
  pub rise : Rise (rank w.b0) s.keep (rank w.b1)
  pub fine : All (FineWindow t m M) s.survivors

module _ {t : Float} (t0 : Nonneg t) where
  if_fine : (m M : ℕ) (a b : Float) → Point a → Point b → m ≤ rank a → rank b ≤ M → All (FineInterval t m M) (push_if (lt t (width a b)) (interval a b))
  if_fine m M a b ga gb i j = by_cases (λ (c : Bool). All (FineInterval t m M) (push_if c (interval a b))) (lt t (width a b)) (λ y. (record { point0 = ga; point1 = gb; wide = y; low = i; high = j }, tt)) (λ n. tt)

  pub pieces_fine : (m M : ℕ) (at b1 : Float) → Point at → Point b1 → m ≤ rank at → rank b1 ≤ M → (gs : List Interval) → Rise (rank at) gs (rank b1) → All (FineInterval t m M) (pieces t at b1 gs)
  unfolding pieces
  pieces_fine m M at b1 ga gb i j [] h = if_fine m M at b1 ga gb i j
  pieces_fine m M at b1 ga gb i j (g ∷ gs) h =
      let s = h.0 in
      let e = max_rank ga s.point1 in
      let f : rank (max_of at g.to) ≡ rank g.to = omega arith in
      let r = rise_le (rank g.to) gs (rank b1) h.1 in
      all_append (FineInterval t m M) (push_if (lt t (width at g.from)) (interval at g.from)) (pieces t (max_of at g.to) b1 gs)
      (if_fine m M at g.from ga s.point0 i (omega arith))
      (pieces_fine m M (max_of at g.to) b1 (max_point ga s.point1) gb (omega arith) j gs (subst (λ (n : ℕ). Rise n gs (rank b1)) (sym f) h.1))

  pub wide_fine : (m M : ℕ) (p : ℕ) (ks : List Interval) (q : ℕ) → m ≤ p → q ≤ M → Rise p ks q → All (FineInterval t m M) (wide_of t ks)
  unfolding wide_of
  wide_fine m M p [] q i j h = tt
  wide_fine m M p (k ∷ ks) q i j h =
      let s = h.0 in
      let r = rise_le (rank k.to) ks q h.1 in
      all_append (FineInterval t m M) (push_if (not (le (width k.from k.to) t)) k) (wide_of t ks)
      (by_cases (λ (c : Bool). All (FineInterval t m M) (push_if c k)) (not (le (width k.from k.to) t)) (λ y. (record { point0 = s.point0; point1 = s.point1; wide = wide_no t0 s.point0 s.point1 y; low = omega arith; high = omega arith }, tt)) (λ n. tt))
      (wide_fine m M (rank k.to) ks q (omega arith) j h.1)

  pub wide_count : (X Y : ℕ) (ks : List Interval) → count X Y (wide_of t ks) ≤ count X Y ks
  unfolding wide_of count
  wide_count X Y [] = omega arith
  wide_count X Y (k ∷ ks) = omega (arith, count_append X Y (push_if (not (le (width k.from k.to) t)) k) (wide_of t ks), count_if X Y (not (le (width k.from k.to) t)) k, wide_count X Y ks)

  module _ {better : Better} (B : Stretches better) {w : Window} (W : Wide t w) (m M : ℕ) where
    meet_walk : (u : Window) → FineWindow t m M u → (gs : List Interval) → Rise (rank (shared_lo w u)) gs (rank (shared_hi w u)) → (s : Walk) → WalkOk t w m M s → WalkOk t w m M (meet t u (shared_lo w u) (shared_hi w u) gs s)
    unfolding meet
    meet_walk u f [] R s k =
        let h = shared W u f in
        record {
          rise = next_rise (shared_lo w u) (shared_hi w u) h.point_lo h.point_hi (rank (shared_lo w u)) (rank (shared_hi w u)) [] R (rank w.b0) s.keep (rank w.b1) k.rise;
          fine = all_append (FineWindow t m M) s.survivors (u ∷ []) k.fine (f, tt);
        }
    meet_walk u f (g ∷ gs) R s k =
        let h = shared W u f in
        record {
          rise = next_rise (shared_lo w u) (shared_hi w u) h.point_lo h.point_hi (rank (shared_lo w u)) (rank (shared_hi w u)) (g ∷ gs) R (rank w.b0) s.keep (rank w.b1) k.rise;
          fine = all_append (FineWindow t m M) s.survivors (split u s.made (pieces t u.b0 u.b1 (g ∷ gs))) k.fine
              (split_all (Fine t m M) u s.made (pieces t u.b0 u.b1 (g ∷ gs)) (pieces_fine m M u.b0 u.b1 f.point0 f.point1 f.low f.high (g ∷ gs) (inside h (g ∷ gs) R)));
        }

    pub met : (u : Window) (f : FineWindow t m M u) → T (not (le (width (shared_lo w u) (shared_hi w u)) t)) → rank (shared_lo w u) < rank (shared_hi w u)
    met u f n = let h = shared W u f in wide_pos t0 h.point_lo h.point_hi (wide_no t0 h.point_lo h.point_hi n)

    pub visit_walk : (u : Window) → FineWindow t m M u → (s : Walk) → WalkOk t w m M s → WalkOk t w m M (visit better t w u s)
    unfolding visit
    visit_walk u f s k =
        let lo = shared_lo w u in
        let hi = shared_hi w u in
        let h = shared W u f in
        by_cases (λ (c : Bool). WalkOk t w m M (cond c (untouched u s) (meet t u lo hi (better w.src u.src lo hi) s))) (le (width lo hi) t)
        (λ y. record { rise = k.rise; fine = all_append (FineWindow t m M) s.survivors (u ∷ []) k.fine (f, tt) })
        (λ n. meet_walk u f (better w.src u.src lo hi) (B.rising w.src u.src lo hi h.point_lo h.point_hi (met u f n)) s k)

    pub visits_walk : (us : List Window) → All (FineWindow t m M) us → (s : Walk) → WalkOk t w m M s → WalkOk t w m M (visits better t w us s)
    unfolding visits
    visits_walk [] f s k = k
    visits_walk (u ∷ us) f s k = visits_walk us f.1 (visit better t w u s) (visit_walk u f.0 s k)

    -- ---- counts of a wide [x, y]
    module _ (x y : Float) (gx : Point x) (gy : Point y) (wide : T (lt t (width x y))) where
      abbrev X : ℕ
      X = rank x

      abbrev Y : ℕ
      Y = rank y

      pub record Counts (u : Window) (s s' : Walk) : Type 0 where
        pub added : wcount X Y s'.survivors ≤ wcount X Y s.survivors + has X Y (rank u.b0) (rank u.b1)
        pub kept : count X Y s'.keep ≤ count X Y s.keep
        pub apart : wcount X Y s'.survivors + count X Y s'.keep ≤ wcount X Y s.survivors + 1

      xy : X < Y
      xy = wide_pos t0 gx gy wide

      -- P of u's pieces, G stretches, K of `keep`
      apart_of : (u : Window) → Shared w u → (P G K : ℕ) → P + G ≤ has X Y (rank u.b0) (rank u.b1) → K ≤ has X Y (rank w.b0) (rank w.b1) → (rank (shared_lo w u) ≤ X → Y ≤ rank (shared_hi w u) → G ≡ 0 → K ≡ 0) → P + K ≤ 1
      apart_of u h P G K p k z = elim (view X Y (rank u.b0) (rank u.b1)) [
        | missing f e ↦ omega (arith, has_one X Y (rank w.b0) (rank w.b1))
        | holding a b c ↦ elim (view X Y (rank w.b0) (rank w.b1)) [
          | missing f e ↦ omega arith
          | holding d e f ↦
              let i = h.rank_lo in
              let j = h.rank_hi in
              let none : G ≡ 0 → K ≡ 0 = z (omega arith) (omega arith) in
              go G none p
        ]
      ]
        where
          go : (G : ℕ) → (G ≡ 0 → K ≡ 0) → P + G ≤ has X Y (rank u.b0) (rank u.b1) → P + K ≤ 1
          go zero z p = omega (arith, z refl, has_one X Y (rank u.b0) (rank u.b1))
          go (suc G) z p = omega (arith, has_one X Y (rank u.b0) (rank u.b1), has_one X Y (rank w.b0) (rank w.b1))

      meet_counts : (u : Window) → FineWindow t m M u → (gs : List Interval) → Rise (rank (shared_lo w u)) gs (rank (shared_hi w u)) → (s : Walk) → WalkOk t w m M s → Counts u s (meet t u (shared_lo w u) (shared_hi w u) gs s)
      unfolding meet wcount count
      meet_counts u f [] R s k =
          let h = shared W u f in
          let lo = shared_lo w u in
          let hi = shared_hi w u in
          let fewer = next_count X Y xy lo hi h.point_lo h.point_hi (rank lo) (rank hi) [] R (rank w.b0) s.keep (rank w.b1) k.rise in
          let all = rise_count X Y xy (rank w.b0) s.keep (rank w.b1) k.rise in
          let e = wcount_append X Y s.survivors (u ∷ []) in
          let a = apart_of u h (has X Y (rank u.b0) (rank u.b1)) 0 (count X Y (next lo hi [] s.keep)) (omega arith) (omega arith)
          (λ i j z. next_none X Y xy lo hi h.point_lo h.point_hi i j (rank lo) (rank hi) [] R refl (rank w.b0) s.keep (rank w.b1) k.rise) in
          record { added = omega arith; kept = fewer; apart = omega arith }
      meet_counts u f (g ∷ gs) R s k =
          let h = shared W u f in
          let lo = shared_lo w u in
          let hi = shared_hi w u in
          let ps = pieces t u.b0 u.b1 (g ∷ gs) in
          let fewer = next_count X Y xy lo hi h.point_lo h.point_hi (rank lo) (rank hi) (g ∷ gs) R (rank w.b0) s.keep (rank w.b1) k.rise in
          let all = rise_count X Y xy (rank w.b0) s.keep (rank w.b1) k.rise in
          let e = wcount_append X Y s.survivors (split u s.made ps) in
          let d = split_count X Y u s.made ps in
          let c = pieces_count X Y xy t u.b0 u.b1 f.point0 f.point1 (g ∷ gs) (inside h (g ∷ gs) R) in
          let a = apart_of u h (count X Y ps) (count X Y (g ∷ gs)) (count X Y (next lo hi (g ∷ gs) s.keep)) c (le_trans fewer all)
          (λ i j z. next_none X Y xy lo hi h.point_lo h.point_hi i j (rank lo) (rank hi) (g ∷ gs) R z (rank w.b0) s.keep (rank w.b1) k.rise) in
          record { added = omega arith; kept = fewer; apart = omega arith }

      pub visit_counts : (u : Window) → FineWindow t m M u → (s : Walk) → WalkOk t w m M s → Counts u s (visit better t w u s)
      unfolding visit wcount
      visit_counts u f s k =
          let lo = shared_lo w u in
          let hi = shared_hi w u in
          let h = shared W u f in
          by_cases (λ (c : Bool). Counts u s (cond c (untouched u s) (meet t u lo hi (better w.src u.src lo hi) s))) (le (width lo hi) t)
          (λ n.
          let e = wcount_append X Y s.survivors (u ∷ []) in
          let all = rise_count X Y xy (rank w.b0) s.keep (rank w.b1) k.rise in
          let a = apart_of u h (has X Y (rank u.b0) (rank u.b1)) 0 (count X Y s.keep) (omega arith) all (λ i j z. absurd (slim t0 h.point_lo h.point_hi n (wide_mono t0 gx gy h.point_lo h.point_hi i j wide))) in
          record { added = omega arith; kept = le_refl (count X Y s.keep); apart = omega arith })
          (λ n. meet_counts u f (better w.src u.src lo hi) (B.rising w.src u.src lo hi h.point_lo h.point_hi (met u f n)) s k)

      pub record Whole (us : List Window) (s s' : Walk) : Type 0 where
        pub added : wcount X Y s'.survivors ≤ wcount X Y s.survivors + wcount X Y us
        pub apart : wcount X Y s'.survivors + count X Y s'.keep ≤ 1

      pub visits_counts : (us : List Window) → All (FineWindow t m M) us → (s : Walk) → WalkOk t w m M s → wcount X Y s.survivors + wcount X Y us ≤ 1 → wcount X Y s.survivors + count X Y s.keep ≤ 1 → Whole us s (visits better t w us s)
      unfolding visits wcount
      visits_counts [] f s k a b = record { added = omega arith; apart = b }
      visits_counts (u ∷ us) f s k a b =
          let c = visit_counts u f.0 s k in
          let r = visits_counts us f.1 (visit better t w u s) (visit_walk u f.0 s k) (omega arith) (omega arith) in
          record { added = omega arith; apart = r.apart }
