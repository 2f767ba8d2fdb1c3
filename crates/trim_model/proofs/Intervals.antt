-- Lists of intervals: they rise, and how many of them hold [X, Y], by ranks. What `next` and `pieces` leave rises, and holds [X, Y] no more often than what they start from. Assumes nothing.
use Prim.Native.Nat.{ℕ, ◌+◌, ◌≤◌, ◌<◌, max}
use mathlib.Core.Bool.{Bool, true, false, cond}
use mathlib.Core.List.{List, [], ◌∷◌, ◌++◌}
use mathlib.Core.Path.{◌≡◌, refl, sym, ap, subst}
use native.Mathlib.Nat.{le_refl, le_trans}
use native.Mathlib.Omega.{arith}
use lib.Ieee.{Float, lt, le}
use Rattle.float64.specs.Scalar.{min_of, max_of}
use Rattle.better.specs.Stretches.{Interval, interval}
use Rattle.trim_model.specs.Intervals.{width, push_if, cuts_within, next_of, next, pieces}
use Rattle.better.specs.Claim.{Point}
use Rattle.trim_model.proofs.Ranks.{rank, le_yes, lt_yes, max_point, max_rank, min_point, min_rank, le_no, by_cases}
use Rattle.trim_model.proofs.Count.{has, has_in, has_two, view, holding, missing}

-- an interval between points, which does not start below p
pub record Sound (p : ℕ) (k : Interval) : Type 0 where
  pub point0 : Point k.from
  pub point1 : Point k.to
  pub above : p ≤ rank k.from
  pub rises : rank k.from < rank k.to

-- intervals that rise from p to q, one behind the other
abbrev pub Rise : ℕ → List Interval → ℕ → Type 0
Rise p [] q = p ≤ q
Rise p (k ∷ ks) q = Sound p k × Rise (rank k.to) ks q

-- with ground between two of them
abbrev pub Gaps : ℕ → List Interval → Type 0
Gaps p [] = Unit {0}
Gaps p (g ∷ gs) = (p < rank g.from) × Gaps (rank g.to) gs

pub rise_le : (p : ℕ) (l : List Interval) (q : ℕ) → Rise p l q → p ≤ q
rise_le p [] q h = h
rise_le p (k ∷ ks) q h = let r = rise_le (rank k.to) ks q h.1 in let s = h.0 in omega arith

pub rise_start : (p p' : ℕ) (l : List Interval) (q : ℕ) → p' ≤ p → Rise p l q → Rise p' l q
rise_start p p' [] q i h = le_trans i h
rise_start p p' (k ∷ ks) q i h = (record { point0 = h.0.point0; point1 = h.0.point1; above = le_trans i h.0.above; rises = h.0.rises }, h.1)

pub rise_append : (p : ℕ) (l : List Interval) (q : ℕ) (m : List Interval) (r : ℕ) → Rise p l q → Rise q m r → Rise p (l ++ m) r
rise_append p [] q m r h k = rise_start q p m r h k
rise_append p (x ∷ xs) q m r h k = (h.0, rise_append (rank x.to) xs q m r h.1 k)

-- how many hold [X, Y]
unfoldable pub count : ℕ → ℕ → List Interval → ℕ
count X Y [] = 0
count X Y (k ∷ ks) = has X Y (rank k.from) (rank k.to) + count X Y ks

pub count_append : (X Y : ℕ) (l m : List Interval) → count X Y (l ++ m) ≡ count X Y l + count X Y m
unfolding count
count_append X Y [] m = omega arith
count_append X Y (k ∷ ks) m = omega (arith, count_append X Y ks m)

pub count_if : (X Y : ℕ) (b : Bool) (k : Interval) → count X Y (push_if b k) ≤ has X Y (rank k.from) (rank k.to)
unfolding count
count_if X Y true k = omega arith
count_if X Y false k = omega arith

pub rise_count : (X Y : ℕ) → X < Y → (p : ℕ) (l : List Interval) (q : ℕ) → Rise p l q → count X Y l ≤ has X Y p q
unfolding count
rise_count X Y z p [] q h = omega arith
rise_count X Y z p (k ∷ ks) q h =
    let r = rise_count X Y z (rank k.to) ks q h.1 in
    let s = h.0 in
    let e = rise_le (rank k.to) ks q h.1 in
    let d : rank k.from ≤ rank k.to = omega arith in
    omega (arith, has_two X Y z {a = rank k.from} {m = rank k.to} {b = q} d e, has_in X Y p q (rank k.from) q s.above (le_refl q))

if_rise : (a b : Float) → Point a → Point b → rank a ≤ rank b → Rise (rank a) (push_if (lt a b) (interval a b)) (rank b)
if_rise a b ga gb h = by_cases (λ (c : Bool). Rise (rank a) (push_if c (interval a b)) (rank b)) (lt a b) (λ y. (record { point0 = ga; point1 = gb; above = le_refl (rank a); rises = lt_yes ga gb y }, le_refl (rank b))) (λ n. h)

cuts_rise : (o0 o1 : Float) → Point o0 → Point o1 → (P p : ℕ) (gs : List Interval) (q : ℕ) → P ≤ rank o1 → P ≤ max p (rank o0) → Rise p gs q → Rise P (cuts_within o0 o1 gs) (rank o1)
unfolding cuts_within
cuts_rise o0 o1 g0 g1 P p [] q i j h = i
cuts_rise o0 o1 g0 g1 P p (g ∷ gs) q i j h =
    let s = h.0 in
    let c0 = max_of g.from o0 in
    let c1 = min_of g.to o1 in
    let e0 = max_rank s.point0 g0 in
    let e1 = min_rank s.point1 g1 in
    let G0 = max_point s.point0 g0 in
    let G1 = min_point s.point1 g1 in
    by_cases (λ (c : Bool). Rise P (push_if c (interval c0 c1) ++ cuts_within o0 o1 gs) (rank o1)) (lt c0 c1)
    (λ y. (record { point0 = G0; point1 = G1; above = omega arith; rises = lt_yes G0 G1 y }, cuts_rise o0 o1 g0 g1 (rank c1) (rank g.to) gs q (omega arith) (omega arith) h.1))
    (λ n. cuts_rise o0 o1 g0 g1 P (rank g.to) gs q i (omega arith) h.1)

-- what is kept of k rises from its start to its end
pub next_of_rise : (lo hi : Float) → Point lo → Point hi → (p q : ℕ) (gs : List Interval) → Rise p gs q → (k : Interval) → Point k.from → Point k.to → rank k.from < rank k.to → Rise (rank k.from) (next_of lo hi gs k) (rank k.to)
unfolding next_of
next_of_rise lo hi gl gh p q gs R k g0 g1 l =
    let o0 = max_of k.from lo in
    let o1 = min_of k.to hi in
    let e0 = max_rank g0 gl in
    let e1 = min_rank g1 gh in
    let G0 = max_point g0 gl in
    let G1 = min_point g1 gh in
    by_cases (λ (c : Bool). Rise (rank k.from) (cond c (k ∷ []) (push_if (lt k.from o0) (interval k.from o0) ++ (cuts_within o0 o1 gs ++ push_if (lt o1 k.to) (interval o1 k.to)))) (rank k.to)) (le o1 o0)
    (λ y. (record { point0 = g0; point1 = g1; above = le_refl (rank k.from); rises = l }, le_refl (rank k.to)))
    (λ n. let z = le_no G1 G0 n in
    rise_append (rank k.from) (push_if (lt k.from o0) (interval k.from o0)) (rank o0) (cuts_within o0 o1 gs ++ push_if (lt o1 k.to) (interval o1 k.to)) (rank k.to)
    (if_rise k.from o0 g0 G0 (omega arith))
    (rise_append (rank o0) (cuts_within o0 o1 gs) (rank o1) (push_if (lt o1 k.to) (interval o1 k.to)) (rank k.to)
    (cuts_rise o0 o1 G0 G1 (rank o0) p gs q (omega arith) (omega arith) R)
    (if_rise o1 k.to G1 g1 (omega arith))))

pub next_rise : (lo hi : Float) → Point lo → Point hi → (p q : ℕ) (gs : List Interval) → Rise p gs q → (a : ℕ) (ks : List Interval) (b : ℕ) → Rise a ks b → Rise a (next lo hi gs ks) b
unfolding next
next_rise lo hi gl gh p q gs R a [] b h = h
next_rise lo hi gl gh p q gs R a (k ∷ ks) b h =
    let s = h.0 in
    rise_start (rank k.from) a (next_of lo hi gs k ++ next lo hi gs ks) b s.above
    (rise_append (rank k.from) (next_of lo hi gs k) (rank k.to) (next lo hi gs ks) b (next_of_rise lo hi gl gh p q gs R k s.point0 s.point1 s.rises) (next_rise lo hi gl gh p q gs R (rank k.to) ks b h.1))

module _ (X Y : ℕ) (XY : X < Y) where
  -- [X, Y] is held no more often than before
  pub next_count : (lo hi : Float) → Point lo → Point hi → (p q : ℕ) (gs : List Interval) → Rise p gs q → (a : ℕ) (ks : List Interval) (b : ℕ) → Rise a ks b → count X Y (next lo hi gs ks) ≤ count X Y ks
  unfolding next count
  next_count lo hi gl gh p q gs R a [] b h = omega arith
  next_count lo hi gl gh p q gs R a (k ∷ ks) b h =
      let s = h.0 in
      omega (
        arith,
        count_append X Y (next_of lo hi gs k) (next lo hi gs ks),
        rise_count X Y XY (rank k.from) (next_of lo hi gs k) (rank k.to) (next_of_rise lo hi gl gh p q gs R k s.point0 s.point1 s.rises),
        next_count lo hi gl gh p q gs R (rank k.to) ks b h.1,
      )

  cuts_count : (o0 o1 : Float) → Point o0 → Point o1 → (p : ℕ) (gs : List Interval) (q : ℕ) → Rise p gs q → count X Y (cuts_within o0 o1 gs) ≤ count X Y gs
  unfolding cuts_within count
  cuts_count o0 o1 g0 g1 p [] q h = omega arith
  cuts_count o0 o1 g0 g1 p (g ∷ gs) q h =
      let s = h.0 in
      let c0 = max_of g.from o0 in
      let c1 = min_of g.to o1 in
      let e0 = max_rank s.point0 g0 in
      let e1 = min_rank s.point1 g1 in
      let i0 : rank g.from ≤ rank c0 = omega arith in
      let i1 : rank c1 ≤ rank g.to = omega arith in
      omega (
        arith,
        count_append X Y (push_if (lt c0 c1) (interval c0 c1)) (cuts_within o0 o1 gs),
        count_if X Y (lt c0 c1) (interval c0 c1),
        has_in X Y (rank g.from) (rank g.to) (rank c0) (rank c1) i0 i1,
        cuts_count o0 o1 g0 g1 (rank g.to) gs q h.1,
      )

  -- inside [lo, hi] nothing is kept but in the stretches
  next_of_none : (lo hi : Float) → Point lo → Point hi → rank lo ≤ X → Y ≤ rank hi → (p q : ℕ) (gs : List Interval) → Rise p gs q → (k : Interval) → Point k.from → Point k.to → count X Y (next_of lo hi gs k) ≤ count X Y gs
  unfolding next_of count
  next_of_none lo hi gl gh lX hY p q gs R k g0 g1 =
      let o0 = max_of k.from lo in
      let o1 = min_of k.to hi in
      let e0 = max_rank g0 gl in
      let e1 = min_rank g1 gh in
      let G0 = max_point g0 gl in
      let G1 = min_point g1 gh in
      by_cases (λ (c : Bool). count X Y (cond c (k ∷ []) (push_if (lt k.from o0) (interval k.from o0) ++ (cuts_within o0 o1 gs ++ push_if (lt o1 k.to) (interval o1 k.to)))) ≤ count X Y gs) (le o1 o0)
      (λ y. whole (le_yes G1 G0 y))
      (λ n. omega (
        arith,
        count_append X Y (push_if (lt k.from o0) (interval k.from o0)) (cuts_within o0 o1 gs ++ push_if (lt o1 k.to) (interval o1 k.to)),
        count_append X Y (cuts_within o0 o1 gs) (push_if (lt o1 k.to) (interval o1 k.to)),
        cuts_count o0 o1 G0 G1 p gs q R,
        count_if X Y (lt k.from o0) (interval k.from o0),
        count_if X Y (lt o1 k.to) (interval o1 k.to),
        first,
        last,
      ))
    where
      first : has X Y (rank k.from) (rank (max_of k.from lo)) ≡ 0
      first = elim (view X Y (rank k.from) (rank (max_of k.from lo))) [ holding a b c ↦ let e = max_rank g0 gl in omega arith | missing f e ↦ e ]

      last : has X Y (rank (min_of k.to hi)) (rank k.to) ≡ 0
      last = elim (view X Y (rank (min_of k.to hi)) (rank k.to)) [ holding a b c ↦ let e = min_rank g1 gh in omega arith | missing f e ↦ e ]

      whole : rank (min_of k.to hi) ≤ rank (max_of k.from lo) → count X Y (k ∷ []) ≤ count X Y gs
      whole z = elim (view X Y (rank k.from) (rank k.to)) [ holding a b c ↦ let e = min_rank g1 gh in let d = max_rank g0 gl in omega arith | missing f e ↦ omega arith ]

  pub next_none : (lo hi : Float) → Point lo → Point hi → rank lo ≤ X → Y ≤ rank hi → (p q : ℕ) (gs : List Interval) → Rise p gs q → count X Y gs ≡ 0 → (a : ℕ) (ks : List Interval) (b : ℕ) → Rise a ks b → count X Y (next lo hi gs ks) ≡ 0
  unfolding next count
  next_none lo hi gl gh lX hY p q gs R z a [] b h = refl
  next_none lo hi gl gh lX hY p q gs R z a (k ∷ ks) b h =
      let s = h.0 in
      omega (arith, count_append X Y (next_of lo hi gs k) (next lo hi gs ks), next_of_none lo hi gl gh lX hY p q gs R k s.point0 s.point1, next_none lo hi gl gh lX hY p q gs R z (rank k.to) ks b h.1)

  -- pieces and stretches lie beside each other
  pub pieces_count : (t at b1 : Float) → Point at → Point b1 → (gs : List Interval) → Rise (rank at) gs (rank b1) → count X Y (pieces t at b1 gs) + count X Y gs ≤ has X Y (rank at) (rank b1)
  unfolding pieces count
  pieces_count t at b1 ga gb [] h = omega (arith, count_if X Y (lt t (width at b1)) (interval at b1))
  pieces_count t at b1 ga gb (g ∷ gs) h =
      let s = h.0 in
      let e = max_rank ga s.point1 in
      let f : rank (max_of at g.to) ≡ rank g.to = omega arith in
      let k = rise_le (rank g.to) gs (rank b1) h.1 in
      let R = subst (λ (n : ℕ). Rise n gs (rank b1)) (sym f) h.1 in
      let i : rank g.from ≤ rank (max_of at g.to) = omega arith in
      let j : rank (max_of at g.to) ≤ rank b1 = omega arith in
      let m : rank g.from ≤ rank b1 = omega arith in
      omega (
        arith,
        count_append X Y (push_if (lt t (width at g.from)) (interval at g.from)) (pieces t (max_of at g.to) b1 gs),
        count_if X Y (lt t (width at g.from)) (interval at g.from),
        pieces_count t (max_of at g.to) b1 (max_point ga s.point1) gb gs R,
        ap (λ (n : ℕ). has X Y (rank g.from) n) f,
        has_two X Y XY {a = rank g.from} {m = rank (max_of at g.to)} {b = rank b1} i j,
        has_two X Y XY {a = rank at} {m = rank g.from} {b = rank b1} s.above m,
      )
