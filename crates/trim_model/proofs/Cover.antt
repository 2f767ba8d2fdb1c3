-- Every point of the new window and of the live ones lies in a live window or in a sliver after the addition. Assumes nothing.
--
-- The loop over the run keeps: each point of the new window lies in a survivor, in `keep` or in a sliver. A point of `keep` that one turn gives up lies in the part shared with u. There it
-- is ground that u keeps, or a sliver of u (`pieces_cover`), or it lies in a stretch: then the cut with that stretch keeps it (`cuts_cover`), unless the cut is the single point at an end
-- of the stretch; but there the stretch borders on ground of u, which holds its ends too (`edge_right`, `edge_left`: this is where the stretches must be apart). A point that u gives up
-- lies in a stretch, so in the new window, where the invariant holds it already (`meet_own`).
use Prim.Native.Nat.{ℕ, suc, ◌≤◌, ◌<◌}
use mathlib.Core.Bool.{Bool, not, cond}
use mathlib.Core.List.{List, [], ◌∷◌, ◌++◌}
use mathlib.Core.Logic.{◌⊎◌, inl, inr, ⊎_elim}
use mathlib.Core.Path.{◌≡◌, sym, subst}
use native.Mathlib.Decide.{dec_le}
use native.Mathlib.Omega.{arith}
use lib.Dec.{T}
use lib.Ieee.{Float, lt, le}
use lib.Ieee.Fits.{and_i}
use Rattle.nat_laws.specs.Lists.{insert_by, sort_by}
use Rattle.float64.specs.Scalar.{min_of, max_of}
use Rattle.float64.specs.TotalOrder.{total_less}
use Rattle.float64.specs.Scalar as scalar
use Rattle.better.specs.Stretches.{Interval, interval}
use Rattle.trim_model.specs.Intervals.{width, push_if, is_sliver, sliver, cuts_within, next_of, next, pieces, piece_slivers, wide_of, keep_slivers}
use Rattle.trim_model.specs.Windows.{Window, fresh, split, insert, sorted}
use Rattle.trim_model.specs.Add.{Better, Walk, before, run, behind, start, untouched, meet, visit, visits, add_to, shared_lo, shared_hi}
use Rattle.better.specs.Claim.{All, Point}
use Rattle.trim_model.specs.Claim.{Any}
use Rattle.trim_model.proofs.Ranks.{rank, max_point, max_rank, min_point, min_rank, width_pos, lt_no, le_no, Nonneg, slim_no, by_cases}
use Rattle.trim_model.proofs.Lists.{any_left, any_right, any_split, any_if}
use Rattle.trim_model.proofs.Intervals.{Rise, Gaps, rise_le}
use Rattle.trim_model.proofs.Windows.{parted, Wide, FineWindow}
use Rattle.trim_model.proofs.Run.{Spaced, Stretches, shared, inside, WalkOk, met, visit_walk}
use Rattle.trim_model.proofs.Order.{Tidy, top, start_ok, walked_ok, run_fine}

module _ (X : ℕ) where
  -- the point of rank X lies in an interval, in a window, ends included
  abbrev pub Holds : Interval → Type 0
  Holds k = (rank k.from ≤ X) × (X ≤ rank k.to)

  abbrev pub HoldsWindow : Window → Type 0
  HoldsWindow u = (rank u.b0 ≤ X) × (X ≤ rank u.b1)

  pub fresh_any : (v : Window) (n : ℕ) (ps : List Interval) → Any Holds ps → Any HoldsWindow (fresh v n ps)
  unfolding fresh
  fresh_any v n [] h = h
  fresh_any v n (p ∷ ps) (inl h) = inl h
  fresh_any v n (p ∷ ps) (inr h) = inr (fresh_any v (suc n) ps h)

  pub split_any : (u : Window) (n : ℕ) (ps : List Interval) → Any Holds ps → Any HoldsWindow (split u n ps)
  unfolding split
  split_any u n [] h = h
  split_any u n (p ∷ ps) (inl h) = inl h
  split_any u n (p ∷ ps) (inr h) = inr (fresh_any u n ps h)

  insert_here : (u : Window) (l : List Window) → HoldsWindow u → Any HoldsWindow (insert u l)
  unfolding insert_by
  insert_here u [] h = inl h
  insert_here u (v ∷ vs) h = by_cases (λ (c : Bool). Any HoldsWindow (cond c (v ∷ insert u vs) (u ∷ v ∷ vs))) (total_less v.b0 u.b0) (λ y. inr (insert_here u vs h)) (λ n. inl h)

  insert_there : (u : Window) (l : List Window) → Any HoldsWindow l → Any HoldsWindow (insert u l)
  unfolding insert_by
  insert_there u [] h = absurd h
  insert_there u (v ∷ vs) h = by_cases (λ (c : Bool). Any HoldsWindow (cond c (v ∷ insert u vs) (u ∷ v ∷ vs))) (total_less v.b0 u.b0) (λ y. ⊎_elim inl (λ k. inr (insert_there u vs k)) h) (λ n. inr h)

  pub sorted_any : (l : List Window) → Any HoldsWindow l → Any HoldsWindow (sorted l)
  unfolding sort_by
  sorted_any [] h = h
  sorted_any (u ∷ us) h = ⊎_elim (insert_here u (sorted us)) (λ k. insert_there u (sorted us) (sorted_any us k)) h

module _ {t : Float} (t0 : Nonneg t) (X : ℕ) where
  -- an interval no wider than t is a sliver
  dropped : (a b : Float) → Point a → Point b → rank a < rank b → T (le (width a b) t) → rank a ≤ X → X ≤ rank b → Any (Holds X) (sliver t a b)
  unfolding sliver
  dropped a b ga gb z l i j = any_if (Holds X) (is_sliver t a b) (interval a b) (and_i (lt scalar.zero64 (width a b)) (le (width a b) t) (width_pos ga gb z) l) (i, j)

  -- ground between a and b is a piece or a sliver
  ground : (a b : Float) → Point a → Point b → rank a < rank b → rank a ≤ X → X ≤ rank b → Any (Holds X) (push_if (lt t (width a b)) (interval a b)) ⊎ Any (Holds X) (sliver t a b)
  ground a b ga gb z i j =
      by_cases (λ (c : Bool). (T (not c) → T (not (lt t (width a b)))) → Any (Holds X) (push_if c (interval a b)) ⊎ Any (Holds X) (sliver t a b)) (lt t (width a b))
      (λ y k. inl (inl (i, j)))
      (λ n k. inr (dropped a b ga gb z (slim_no t0 ga gb (k tt)) i j))
      (λ k. k)

  -- what is left of [at, b1] beside the stretches
  abbrev Left : Float → Float → List Interval → Type 0
  Left at b1 gs = Any (Holds X) (pieces t at b1 gs) ⊎ Any (Holds X) (piece_slivers t at b1 gs)

  left_end : (at b1 : Float) → Point at → Point b1 → rank at < rank b1 → rank at ≤ X → X ≤ rank b1 → Left at b1 []
  unfolding pieces piece_slivers
  left_end at b1 ga gb z i j = ground at b1 ga gb z i j

  left_here : (at b1 : Float) (g : Interval) (gs : List Interval) → Point at → Point g.from → rank at < rank g.from → rank at ≤ X → X ≤ rank g.from → Left at b1 (g ∷ gs)
  unfolding pieces piece_slivers
  left_here at b1 g gs ga gb z i j = ⊎_elim
      (λ h. inl (any_left (Holds X) (push_if (lt t (width at g.from)) (interval at g.from)) (pieces t (max_of at g.to) b1 gs) h))
      (λ h. inr (any_left (Holds X) (sliver t at g.from) (piece_slivers t (max_of at g.to) b1 gs) h))
      (ground at g.from ga gb z i j)

  left_there : (at b1 : Float) (g : Interval) (gs : List Interval) → Left (max_of at g.to) b1 gs → Left at b1 (g ∷ gs)
  unfolding pieces piece_slivers
  left_there at b1 g gs = ⊎_elim
      (λ h. inl (any_right (Holds X) (push_if (lt t (width at g.from)) (interval at g.from)) (pieces t (max_of at g.to) b1 gs) h))
      (λ h. inr (any_right (Holds X) (sliver t at g.from) (piece_slivers t (max_of at g.to) b1 gs) h))

  -- the next start of the walk is the end of the stretch
  record Next (at : Float) (g : Interval) (gs : List Interval) (q : ℕ) : Type 0 where
    point : Point (max_of at g.to)
    is : rank (max_of at g.to) ≡ rank g.to
    rise : Rise (rank (max_of at g.to)) gs q

  onto : (at : Float) → Point at → (g : Interval) (gs : List Interval) (q : ℕ) → Rise (rank at) (g ∷ gs) q → Next at g gs q
  onto at ga g gs q h =
      let s = h.0 in
      let e = max_rank ga s.point1 in
      let f : rank (max_of at g.to) ≡ rank g.to = omega arith in
      record { point = max_point ga s.point1; is = f; rise = subst (λ (n : ℕ). Rise n gs q) (sym f) h.1 }

  -- a point of [at, b1] is left, or lies in a stretch
  pieces_cover : (at b1 : Float) → Point at → Point b1 → (g : Interval) (gs : List Interval) → Rise (rank at) (g ∷ gs) (rank b1) → rank at ≤ X → X ≤ rank b1 → Left at b1 (g ∷ gs) ⊎ Any (Holds X) (g ∷ gs)
  pieces_cover at b1 ga gb g [] h i j =
      let s = h.0 in
      let n = onto at ga g [] (rank b1) h in
      let e = n.is in
      elim (dec_le X (rank g.to)) [
        | yes k ↦ elim (dec_le (rank g.from) X) [
          | yes l ↦ inr (inl (l, k))
          | no f ↦ inl (left_here at b1 g [] ga s.point0 (omega arith) i (omega arith))
        ]
        | no f ↦ inl (left_there at b1 g [] (left_end (max_of at g.to) b1 n.point gb (omega arith) (omega arith) j))
      ]
  pieces_cover at b1 ga gb g (g' ∷ gs) h i j =
      let s = h.0 in
      let n = onto at ga g (g' ∷ gs) (rank b1) h in
      let e = n.is in
      elim (dec_le X (rank g.to)) [
        | yes k ↦ elim (dec_le (rank g.from) X) [
          | yes l ↦ inr (inl (l, k))
          | no f ↦ inl (left_here at b1 g (g' ∷ gs) ga s.point0 (omega arith) i (omega arith))
        ]
        | no f ↦ ⊎_elim (λ r. inl (left_there at b1 g (g' ∷ gs) r)) (λ r. inr (inr r)) (pieces_cover (max_of at g.to) b1 n.point gb g' gs n.rise (omega arith) j)
      ]

  -- the end of a stretch, and its start, border on ground
  edge_right : (at b1 : Float) → Point at → Point b1 → (gs : List Interval) → Rise (rank at) gs (rank b1) → Spaced gs → Any (λ (g : Interval). rank g.to ≡ X) gs → X < rank b1 → Left at b1 gs
  edge_right at b1 ga gb [] h sp a z = absurd a
  edge_right at b1 ga gb (g ∷ []) h sp (inl a) z =
      let n = onto at ga g [] (rank b1) h in
      let e = n.is in
      left_there at b1 g [] (left_end (max_of at g.to) b1 n.point gb (omega arith) (omega arith) (omega arith))
  edge_right at b1 ga gb (g ∷ []) h sp (inr a) z = absurd a
  edge_right at b1 ga gb (g ∷ g' ∷ gs) h sp (inl a) z =
      let n = onto at ga g (g' ∷ gs) (rank b1) h in
      let e = n.is in
      let k = sp.0 in
      left_there at b1 g (g' ∷ gs) (left_here (max_of at g.to) b1 g' gs n.point h.1.0.point0 (omega arith) (omega arith) (omega arith))
  edge_right at b1 ga gb (g ∷ g' ∷ gs) h sp (inr a) z =
      let n = onto at ga g (g' ∷ gs) (rank b1) h in
      left_there at b1 g (g' ∷ gs) (edge_right (max_of at g.to) b1 n.point gb (g' ∷ gs) n.rise sp.1 a z)

  edge_left_gaps : (at b1 : Float) → Point at → Point b1 → (gs : List Interval) → Rise (rank at) gs (rank b1) → Gaps (rank at) gs → Any (λ (g : Interval). rank g.from ≡ X) gs → Left at b1 gs
  edge_left_gaps at b1 ga gb [] h sp a = absurd a
  edge_left_gaps at b1 ga gb (g ∷ gs) h sp (inl a) = let k = sp.0 in left_here at b1 g gs ga h.0.point0 k (omega arith) (omega arith)
  edge_left_gaps at b1 ga gb (g ∷ gs) h sp (inr a) =
      let n = onto at ga g gs (rank b1) h in
      left_there at b1 g gs (edge_left_gaps (max_of at g.to) b1 n.point gb gs n.rise (subst (λ (x : ℕ). Gaps x gs) (sym n.is) sp.1) a)

  edge_left : (at b1 : Float) → Point at → Point b1 → (gs : List Interval) → Rise (rank at) gs (rank b1) → Spaced gs → Any (λ (g : Interval). rank g.from ≡ X) gs → rank at < X → Left at b1 gs
  edge_left at b1 ga gb [] h sp a z = absurd a
  edge_left at b1 ga gb (g ∷ gs) h sp (inl a) z = left_here at b1 g gs ga h.0.point0 (omega arith) (omega arith) (omega arith)
  edge_left at b1 ga gb (g ∷ gs) h sp (inr a) z =
      let n = onto at ga g gs (rank b1) h in
      left_there at b1 g gs (edge_left_gaps (max_of at g.to) b1 n.point gb gs n.rise (subst (λ (x : ℕ). Gaps x gs) (sym n.is) sp) a)

  -- ---- what is cut of the new window
  data Cut (o0 o1 : Float) (gs : List Interval) : Type 0 where
    in_cut : Any (Holds X) (cuts_within o0 o1 gs) → Cut o0 o1 gs
    at_end_lem : Any (λ (g : Interval). rank g.to ≡ X) gs → X ≡ rank o0 → Cut o0 o1 gs
    at_start : Any (λ (g : Interval). rank g.from ≡ X) gs → X ≡ rank o1 → Cut o0 o1 gs

  cuts_cover : (o0 o1 : Float) → Point o0 → Point o1 → rank o0 < rank o1 → rank o0 ≤ X → X ≤ rank o1 → (p : ℕ) (gs : List Interval) (q : ℕ) → Rise p gs q → Any (Holds X) gs → Cut o0 o1 gs
  unfolding cuts_within
  cuts_cover o0 o1 g0 g1 z i j p [] q h a = absurd a
  cuts_cover o0 o1 g0 g1 z i j p (g ∷ gs) q h (inr a) = more (cuts_cover o0 o1 g0 g1 z i j (rank g.to) gs q h.1 a)
    where
      more : Cut o0 o1 gs → Cut o0 o1 (g ∷ gs)
      more (in_cut r) = in_cut (any_right (Holds X) (push_if (lt (max_of g.from o0) (min_of g.to o1)) (interval (max_of g.from o0) (min_of g.to o1))) (cuts_within o0 o1 gs) r)
      more (at_end_lem r e) = at_end_lem (inr r) e
      more (at_start r e) = at_start (inr r) e
  cuts_cover o0 o1 g0 g1 z i j p (g ∷ gs) q h (inl a) =
      let s = h.0 in
      let e0 = max_rank s.point0 g0 in
      let e1 = min_rank s.point1 g1 in
      let l = a.0 in
      let m = a.1 in
      elim (dec_le (rank (min_of g.to o1)) (rank (max_of g.from o0))) [
        | yes k ↦ elim (dec_le (rank g.to) X) [
          | yes f ↦ at_end_lem (inl (omega arith)) (omega arith)
          | no f ↦ at_start (inl (omega arith)) (omega arith)
        ]
        | no f ↦ in_cut (any_left (Holds X) (push_if (lt (max_of g.from o0) (min_of g.to o1)) (interval (max_of g.from o0) (min_of g.to o1))) (cuts_within o0 o1 gs)
            (by_cases (λ (c : Bool). Any (Holds X) (push_if c (interval (max_of g.from o0) (min_of g.to o1)))) (lt (max_of g.from o0) (min_of g.to o1)) (λ y. inl (omega arith, omega arith)) (λ n. let k = lt_no (max_point s.point0 g0) (min_point s.point1 g1) n in let y : ⊥ = omega arith in absurd y)))
      ]

  any_in : (p : ℕ) (gs : List Interval) (q : ℕ) → Rise p gs q → Any (Holds X) gs → (p ≤ X) × (X ≤ q)
  any_in p [] q h a = absurd a
  any_in p (g ∷ gs) q h (inl a) = let s = h.0 in let r = rise_le (rank g.to) gs q h.1 in let i = a.0 in let j = a.1 in (omega arith, omega arith)
  any_in p (g ∷ gs) q h (inr a) = let s = h.0 in let r = any_in (rank g.to) gs q h.1 a in let i = r.0 in let j = r.1 in (omega arith, omega arith)

  module _ (lo hi : Float) (gl : Point lo) (gh : Point hi) (gs : List Interval) (R : Rise (rank lo) gs (rank hi)) where
    -- a point of k that is not kept lies in [lo, hi]
    next_or_shared : (k : Interval) → Point k.from → Point k.to → Holds X k → Any (Holds X) (next_of lo hi gs k) ⊎ ((rank lo ≤ X) × (X ≤ rank hi))
    unfolding next_of
    next_or_shared k g0 g1 a =
        let o0 = max_of k.from lo in
        let o1 = min_of k.to hi in
        let e0 = max_rank g0 gl in
        let e1 = min_rank g1 gh in
        let i = a.0 in
        let j = a.1 in
        by_cases (λ (c : Bool). Any (Holds X) (cond c (k ∷ []) (push_if (lt k.from o0) (interval k.from o0) ++ (cuts_within o0 o1 gs ++ push_if (lt o1 k.to) (interval o1 k.to)))) ⊎ ((rank lo ≤ X) × (X ≤ rank hi))) (le o1 o0)
        (λ y. inl (inl a))
        (λ n. elim (dec_le (rank lo) X) [
          | no f ↦ inl (any_left (Holds X) (push_if (lt k.from o0) (interval k.from o0)) (cuts_within o0 o1 gs ++ push_if (lt o1 k.to) (interval o1 k.to))
              (by_cases (λ (c : Bool). Any (Holds X) (push_if c (interval k.from o0))) (lt k.from o0) (λ y. inl (i, omega arith)) (λ m. let l = lt_no g0 (max_point g0 gl) m in let y : ⊥ = omega arith in absurd y)))
          | yes l ↦ elim (dec_le X (rank hi)) [
            | yes r ↦ inr (l, r)
            | no f ↦ inl (any_right (Holds X) (push_if (lt k.from o0) (interval k.from o0)) (cuts_within o0 o1 gs ++ push_if (lt o1 k.to) (interval o1 k.to))
                (any_right (Holds X) (cuts_within o0 o1 gs) (push_if (lt o1 k.to) (interval o1 k.to))
                (by_cases (λ (c : Bool). Any (Holds X) (push_if c (interval o1 k.to))) (lt o1 k.to) (λ y. inl (omega arith, j)) (λ m. let l = lt_no (min_point g1 gh) g1 m in let y : ⊥ = omega arith in absurd y))))
          ]
        ])

    nexts_or_shared : (a : ℕ) (ks : List Interval) (b : ℕ) → Rise a ks b → Any (Holds X) ks → Any (Holds X) (next lo hi gs ks) ⊎ ((rank lo ≤ X) × (X ≤ rank hi))
    unfolding next
    nexts_or_shared a [] b h c = absurd c
    nexts_or_shared a (k ∷ ks) b h (inl c) = ⊎_elim (λ r. inl (any_left (Holds X) (next_of lo hi gs k) (next lo hi gs ks) r)) inr (next_or_shared k h.0.point0 h.0.point1 c)
    nexts_or_shared a (k ∷ ks) b h (inr c) = ⊎_elim (λ r. inl (any_right (Holds X) (next_of lo hi gs k) (next lo hi gs ks) r)) inr (nexts_or_shared (rank k.to) ks b h.1 c)

    module _ (u0 u1 : Float) (gu0 : Point u0) (gu1 : Point u1) (l0 : rank u0 ≤ rank lo) (l1 : rank hi ≤ rank u1) (U : Rise (rank u0) gs (rank u1)) (S : Spaced gs) (G : Any (Holds X) gs) where
      -- a point of k in a stretch is kept, or the old window's ground holds it
      next_of_both : (k : Interval) → Point k.from → Point k.to → Holds X k → Any (Holds X) (next_of lo hi gs k) ⊎ Left u0 u1 gs
      unfolding next_of
      next_of_both k g0 g1 a =
          let o0 = max_of k.from lo in
          let o1 = min_of k.to hi in
          let e0 = max_rank g0 gl in
          let e1 = min_rank g1 gh in
          let G0 = max_point g0 gl in
          let G1 = min_point g1 gh in
          let i = a.0 in
          let j = a.1 in
          let b = any_in (rank lo) gs (rank hi) R G in
          let bi = b.0 in
          let bj = b.1 in
          by_cases (λ (c : Bool). Any (Holds X) (cond c (k ∷ []) (push_if (lt k.from o0) (interval k.from o0) ++ (cuts_within o0 o1 gs ++ push_if (lt o1 k.to) (interval o1 k.to)))) ⊎ Left u0 u1 gs) (le o1 o0)
          (λ y. inl (inl a))
          (λ n. let z = le_no G1 G0 n in done z (cuts_cover o0 o1 G0 G1 z (omega arith) (omega arith) (rank lo) gs (rank hi) R G))
        where
          done : rank (max_of k.from lo) < rank (min_of k.to hi) → Cut (max_of k.from lo) (min_of k.to hi) gs → Any (Holds X) (push_if (lt k.from (max_of k.from lo)) (interval k.from (max_of k.from lo)) ++ (cuts_within (max_of k.from lo) (min_of k.to hi) gs ++ push_if (lt (min_of k.to hi) k.to) (interval (min_of k.to hi) k.to))) ⊎ Left u0 u1 gs
          done z (in_cut r) = inl (any_right (Holds X) (push_if (lt k.from (max_of k.from lo)) (interval k.from (max_of k.from lo))) (cuts_within (max_of k.from lo) (min_of k.to hi) gs ++ push_if (lt (min_of k.to hi) k.to) (interval (min_of k.to hi) k.to)) (any_left (Holds X) (cuts_within (max_of k.from lo) (min_of k.to hi) gs) (push_if (lt (min_of k.to hi) k.to) (interval (min_of k.to hi) k.to)) r))
          done z (at_end_lem r e) = inr (let e1 = min_rank g1 gh in edge_right u0 u1 gu0 gu1 gs U S r (omega arith))
          done z (at_start r e) = inr (let e0 = max_rank g0 gl in edge_left u0 u1 gu0 gu1 gs U S r (omega arith))

      next_both : (a : ℕ) (ks : List Interval) (b : ℕ) → Rise a ks b → Any (Holds X) ks → Any (Holds X) (next lo hi gs ks) ⊎ Left u0 u1 gs
      unfolding next
      next_both a [] b h c = absurd c
      next_both a (k ∷ ks) b h (inl c) = ⊎_elim (λ r. inl (any_left (Holds X) (next_of lo hi gs k) (next lo hi gs ks) r)) inr (next_of_both k h.0.point0 h.0.point1 c)
      next_both a (k ∷ ks) b h (inr c) = ⊎_elim (λ r. inl (any_right (Holds X) (next_of lo hi gs k) (next lo hi gs ks) r)) inr (next_both (rank k.to) ks b h.1 c)

  pub kept_cover : (p : ℕ) (ks : List Interval) (q : ℕ) → Rise p ks q → Any (Holds X) ks → Any (Holds X) (wide_of t ks) ⊎ Any (Holds X) (keep_slivers t ks)
  unfolding wide_of keep_slivers
  kept_cover p [] q h a = absurd a
  kept_cover p (k ∷ ks) q h (inr a) = ⊎_elim (λ r. inl (any_right (Holds X) (push_if (not (le (width k.from k.to) t)) k) (wide_of t ks) r)) (λ r. inr (any_right (Holds X) (sliver t k.from k.to) (keep_slivers t ks) r)) (kept_cover (rank k.to) ks q h.1 a)
  kept_cover p (k ∷ ks) q h (inl a) =
      let s = h.0 in
      by_cases (λ (c : Bool). (T c → T (le (width k.from k.to) t)) → Any (Holds X) (push_if (not c) k ++ wide_of t ks) ⊎ Any (Holds X) (sliver t k.from k.to ++ keep_slivers t ks)) (le (width k.from k.to) t)
      (λ y l. inr (any_left (Holds X) (sliver t k.from k.to) (keep_slivers t ks) (dropped k.from k.to s.point0 s.point1 s.rises (l tt) a.0 a.1)))
      (λ n l. inl (inl a))
      (λ l. l)

  module _ {better : Better} (B : Stretches better) {w : Window} (W : Wide t w) (m M : ℕ) where
    pub data Covered (s : Walk) : Type 0 where
      in_live : Any (HoldsWindow X) s.survivors → Covered s
      in_keep : Any (Holds X) s.keep → Covered s
      in_sliver : Any (Holds X) s.slivers → Covered s

    left_cov : (u : Window) (g : Interval) (gs : List Interval) (s : Walk) → Left u.b0 u.b1 (g ∷ gs) → Covered (meet t u (shared_lo w u) (shared_hi w u) (g ∷ gs) s)
    unfolding meet
    left_cov u g gs s = ⊎_elim
        (λ r. in_live (any_right (HoldsWindow X) s.survivors (split u s.made (pieces t u.b0 u.b1 (g ∷ gs))) (split_any X u s.made (pieces t u.b0 u.b1 (g ∷ gs)) r)))
        (λ r. in_sliver (any_right (Holds X) s.slivers (piece_slivers t u.b0 u.b1 (g ∷ gs)) r))

    stretch_cov : (u : Window) → FineWindow t m M u → (g : Interval) (gs : List Interval) → Rise (rank (shared_lo w u)) (g ∷ gs) (rank (shared_hi w u)) → Spaced (g ∷ gs) → Any (Holds X) (g ∷ gs) → (s : Walk) → WalkOk t w m M s → Any (Holds X) s.keep → Covered (meet t u (shared_lo w u) (shared_hi w u) (g ∷ gs) s)
    unfolding meet
    stretch_cov u f g gs R S G s k c =
        let h = shared W u f in
        let a = h.rank_lo in
        let b = h.rank_hi in
        ⊎_elim in_keep (left_cov u g gs s) (next_both (shared_lo w u) (shared_hi w u) h.point_lo h.point_hi (g ∷ gs) R u.b0 u.b1 f.point0 f.point1 (omega arith) (omega arith) (inside h (g ∷ gs) R) S G (rank w.b0) s.keep (rank w.b1) k.rise c)

    -- what was held is held still
    meet_cov : (u : Window) → FineWindow t m M u → (gs : List Interval) → Rise (rank (shared_lo w u)) gs (rank (shared_hi w u)) → Spaced gs → (s : Walk) → WalkOk t w m M s → Covered s → Covered (meet t u (shared_lo w u) (shared_hi w u) gs s)
    unfolding meet
    meet_cov u f [] R S s k (in_live a) = in_live (any_left (HoldsWindow X) s.survivors (u ∷ []) a)
    meet_cov u f [] R S s k (in_sliver a) = in_sliver a
    meet_cov u f [] R S s k (in_keep a) =
        let h = shared W u f in
        let c = h.rank_lo in
        let d = h.rank_hi in
        ⊎_elim in_keep (λ r. let i = r.0 in let j = r.1 in in_live (any_right (HoldsWindow X) s.survivors (u ∷ []) (inl (omega arith, omega arith)))) (nexts_or_shared (shared_lo w u) (shared_hi w u) h.point_lo h.point_hi [] R (rank w.b0) s.keep (rank w.b1) k.rise a)
    meet_cov u f (g ∷ gs) R S s k (in_live a) = in_live (any_left (HoldsWindow X) s.survivors (split u s.made (pieces t u.b0 u.b1 (g ∷ gs))) a)
    meet_cov u f (g ∷ gs) R S s k (in_sliver a) = in_sliver (any_left (Holds X) s.slivers (piece_slivers t u.b0 u.b1 (g ∷ gs)) a)
    meet_cov u f (g ∷ gs) R S s k (in_keep a) =
        let h = shared W u f in
        let c = h.rank_lo in
        let d = h.rank_hi in
        ⊎_elim in_keep
        (λ r. let i = r.0 in let j = r.1 in
        ⊎_elim (left_cov u g gs s) (λ G. stretch_cov u f g gs R S G s k a) (pieces_cover u.b0 u.b1 f.point0 f.point1 g gs (inside h (g ∷ gs) R) (omega arith) (omega arith)))
        (nexts_or_shared (shared_lo w u) (shared_hi w u) h.point_lo h.point_hi (g ∷ gs) R (rank w.b0) s.keep (rank w.b1) k.rise a)

    -- and so is what u held
    meet_own : (u : Window) → FineWindow t m M u → (gs : List Interval) → Rise (rank (shared_lo w u)) gs (rank (shared_hi w u)) → Spaced gs → (s : Walk) → WalkOk t w m M s → (HoldsWindow X w → Covered s) → HoldsWindow X u → Covered (meet t u (shared_lo w u) (shared_hi w u) gs s)
    unfolding meet
    meet_own u f [] R S s k c a = in_live (any_right (HoldsWindow X) s.survivors (u ∷ []) (inl a))
    meet_own u f (g ∷ gs) R S s k c a =
        let h = shared W u f in
        let d = h.rank_lo in
        let e = h.rank_hi in
        ⊎_elim (left_cov u g gs s)
        (λ G. let r = any_in (rank (shared_lo w u)) (g ∷ gs) (rank (shared_hi w u)) R G in let i = r.0 in let j = r.1 in meet_cov u f (g ∷ gs) R S s k (c (omega arith, omega arith)))
        (pieces_cover u.b0 u.b1 f.point0 f.point1 g gs (inside h (g ∷ gs) R) a.0 a.1)

    visit_cov : (u : Window) → FineWindow t m M u → (s : Walk) → WalkOk t w m M s → Covered s → Covered (visit better t w u s)
    unfolding visit
    visit_cov u f s k c =
        let lo = shared_lo w u in
        let hi = shared_hi w u in
        let h = shared W u f in
        by_cases (λ (b : Bool). Covered (cond b (untouched u s) (meet t u lo hi (better w.src u.src lo hi) s))) (le (width lo hi) t)
        (λ y. same c)
        (λ n. let z = met t0 B W m M u f n in meet_cov u f (better w.src u.src lo hi) (B.rising w.src u.src lo hi h.point_lo h.point_hi z) (B.spaced w.src u.src lo hi h.point_lo h.point_hi z) s k c)
      where
        same : Covered s → Covered (untouched u s)
        same (in_live a) = in_live (any_left (HoldsWindow X) s.survivors (u ∷ []) a)
        same (in_keep a) = in_keep a
        same (in_sliver a) = in_sliver a

    visit_own : (u : Window) → FineWindow t m M u → (s : Walk) → WalkOk t w m M s → (HoldsWindow X w → Covered s) → HoldsWindow X u → Covered (visit better t w u s)
    unfolding visit
    visit_own u f s k c a =
        let lo = shared_lo w u in
        let hi = shared_hi w u in
        let h = shared W u f in
        by_cases (λ (b : Bool). Covered (cond b (untouched u s) (meet t u lo hi (better w.src u.src lo hi) s))) (le (width lo hi) t)
        (λ y. in_live (any_right (HoldsWindow X) s.survivors (u ∷ []) (inl a)))
        (λ n. let z = met t0 B W m M u f n in meet_own u f (better w.src u.src lo hi) (B.rising w.src u.src lo hi h.point_lo h.point_hi z) (B.spaced w.src u.src lo hi h.point_lo h.point_hi z) s k c a)

    pub visits_cov : (us : List Window) → All (FineWindow t m M) us → (s : Walk) → WalkOk t w m M s → (HoldsWindow X w → Covered s) → Covered s ⊎ Any (HoldsWindow X) us → Covered (visits better t w us s)
    unfolding visits
    visits_cov [] f s k c (inl a) = a
    visits_cov [] f s k c (inr a) = absurd a
    visits_cov (u ∷ us) f s k c (inl a) = visits_cov us f.1 (visit better t w u s) (visit_walk t0 B W m M u f.0 s k) (λ i. visit_cov u f.0 s k (c i)) (inl (visit_cov u f.0 s k a))
    visits_cov (u ∷ us) f s k c (inr a) = visits_cov us f.1 (visit better t w u s) (visit_walk t0 B W m M u f.0 s k) (λ i. visit_cov u f.0 s k (c i)) (⊎_elim (λ i. inl (visit_own u f.0 s k c i)) inr a)

-- a point of the new window, or of a live one, lies in a live window or in a sliver after the addition
module _ {t : Float} (t0 : Nonneg t) {better : Better} (B : Stretches better) {w : Window} (W : Wide t w) (made X : ℕ) (l : List Window) (h : Tidy t l) where
  abbrev pre : List Window
  pre = before t w l

  abbrev rn : List Window
  rn = run t w l

  abbrev suf : List Window
  suf = behind t w l

  abbrev s : Walk
  s = visits better t w rn (start w made)

  abbrev news : List Window
  news = fresh w s.made (wide_of t s.keep)

  abbrev After : Type 0
  After = Any (HoldsWindow X) (pre ++ (sorted (s.survivors ++ news) ++ suf)) ⊎ Any (Holds X) (s.slivers ++ keep_slivers t s.keep)

  middle : Any (HoldsWindow X) (s.survivors ++ news) → Any (HoldsWindow X) (pre ++ (sorted (s.survivors ++ news) ++ suf))
  middle i = any_right (HoldsWindow X) pre (sorted (s.survivors ++ news) ++ suf) (any_left (HoldsWindow X) (sorted (s.survivors ++ news)) suf (sorted_any X (s.survivors ++ news) i))

  ended : Covered t0 X B W 0 (top rn) s → After
  ended (in_live i) = inl (middle (any_left (HoldsWindow X) s.survivors news i))
  ended (in_sliver i) = inr (any_left (Holds X) s.slivers (keep_slivers t s.keep) i)
  ended (in_keep i) = ⊎_elim (λ r. inl (middle (any_right (HoldsWindow X) s.survivors news (fresh_any X w s.made (wide_of t s.keep) r)))) (λ r. inr (any_right (Holds X) s.slivers (keep_slivers t s.keep) r))
      (kept_cover t0 X (rank w.b0) s.keep (rank w.b1) (walked_ok t0 B W made 0 (top rn) rn (run_fine t0 B W made l h)).rise i)

  in_run : Covered t0 X B W 0 (top rn) (start w made) ⊎ Any (HoldsWindow X) rn → After
  in_run i = ended (visits_cov t0 X B W 0 (top rn) rn (run_fine t0 B W made l h) (start w made) (start_ok t0 B W made 0 (top rn)) (λ j. in_keep (inl j)) i)

  outside : Any (HoldsWindow X) pre ⊎ Any (HoldsWindow X) (rn ++ suf) → After
  outside (inl i) = inl (any_left (HoldsWindow X) pre (sorted (s.survivors ++ news) ++ suf) i)
  outside (inr i) = ⊎_elim (λ j. in_run (inr j)) (λ j. inl (any_right (HoldsWindow X) pre (sorted (s.survivors ++ news) ++ suf) (any_right (HoldsWindow X) (sorted (s.survivors ++ news)) suf j))) (any_split (HoldsWindow X) rn suf i)

  pub add_cover : HoldsWindow X w ⊎ Any (HoldsWindow X) l → Any (HoldsWindow X) (add_to better t w l made).live ⊎ Any (Holds X) (add_to better t w l made).slivers
  unfolding add_to
  add_cover a = ⊎_elim (λ i. in_run (inl (in_keep (inl i)))) (λ i. outside (any_split (HoldsWindow X) pre (rn ++ suf) (subst (Any (HoldsWindow X)) (parted t w l) i))) a
