-- Where p is never shorter than q from lo to hi, or always, `better` adds no cut to its points, and its answer is empty, or [lo, hi]. Assumes nothing.
-- All that it asks of the two sources is asked at its points and at middles of two of them, and these lie from lo to hi. Its points are lo, at most two ties
-- strictly between, and hi; ties that are equal leave an empty stretch between them, and the next stretch continues the last all the same.
--     never, always     what the range tests tell
use Rattle.std.specs.Prelude.{if◌then◌else◌, None}
use Prim.Native.Nat.{suc, ◌+◌, ◌≤◌}
use native.Mathlib.Omega.{arith}
use mathlib.Core.Bool.{Bool, true, false, not, ◌&&◌}
use mathlib.Core.Logic.{inl, inr}
use mathlib.Core.Path.{◌≡◌, refl, sym, ap, ◌∙◌, subst}
use mathlib.Core.List.{List, [], ◌∷◌, ◌++◌}
use lib.Dec.{T, T_not, not_T}
use lib.ListN.{length, length-append}
use lib.Ieee.{Float, binary64, lt, le, eq}
use lib.Ieee.Bits.{is_true, is_false}
use lib.Ieee.Fits.{and_l, and_r, div-fits}
use lib.Ieee.Scale.{finite}
use Rattle.nat_laws.specs.Lists.{All, insert_by, sort_by}
use Rattle.nat_laws.proofs.Tests.{branch, by_cases}
use Rattle.nat_laws.proofs.Lists.{all_left, all_sort_by}
use Rattle.float64.specs.Scalar.{two}
use Rattle.float64.specs.TotalOrder.{total_less}
use Rattle.float64.specs.Notation.{◌⊕◌, ◌⊘◌}
use Rattle.float_laws.proofs.Order.{Number, finite_number, le_refl, lt_le, lt_not_le, le_antisym, eq_refl, eq_trans, finite_between, le_or_lt, lt_number_l}
use Rattle.float_laws.proofs.Total.{total_le}
use Rattle.float_monotone.proofs.Middle.{middle_above, middle_below}
use Rattle.source.specs.declared.Src.{Src}
use Rattle.source.specs.declared.RealRoots.{RealRoots}
use Rattle.source.specs.declared.RealRoots.TheVariants.{One, Two}
use Rattle.source.specs.Distance.{edge_of, ties_of}
use Rattle.std.specs.declared.cmp.Ordering.{Ordering}
use Rattle.std.specs.declared.cmp.Ordering.TheVariants.{Less, Equal, Greater}
use Rattle.better.specs.Claim.{Point}
use Rattle.better.specs.Cutting.{shorter, longer, sign_of, change_of, cut_of}
use Rattle.better.specs.Points.{root_list, inside, insert_of, sorted_points, pts_of, points_behind, walk_of}
use Rattle.better.specs.Stretches.{Interval, interval, joined, shorter_between, stretches, out_of, better_of}
use Rattle.better.proofs.Cutting.{cut_none, cut_flat}
use Rattle.better.proofs.Points.{Rising, Rises, Le, Inside, walk_next, pts_all, pts_rises}

-- ---- the points: lo, the ties strictly between, hi
-- strictly between
abbrev Strict : Float → Float → Float → Type 0
Strict lo hi x = T (lt lo x) × T (lt x hi)

kept_strict : (lo hi : Float) (xs : List Float) → All (Strict lo hi) (inside lo hi xs)
unfolding inside
kept_strict lo hi [] = tt
kept_strict lo hi (x ∷ xs) = branch (All (Strict lo hi)) (lt lo x && lt x hi) (λ t. ((and_l (lt lo x) (lt x hi) t, and_r (lt lo x) (lt x hi) t), kept_strict lo hi xs)) (λ t. kept_strict lo hi xs)

-- a point below hi goes in before it, and lo goes in front of what is above it
not_before : (x y : Float) → T (lt x y) → total_less y x ≡ false
not_before x y h = is_false (total_less y x) (not_T (total_less y x) (λ t. lt_not_le x y h (total_le y x (lt_number_l x y h) t)))

insert_last : (hi x : Float) (ys : List Float) → T (lt x hi) → insert_of x (ys ++ (hi ∷ [])) ≡ insert_of x ys ++ (hi ∷ [])
unfolding insert_by
insert_last hi x [] h = rw (not_before x hi h)
insert_last hi x (y ∷ ys) h = by_cases
    (λ (b : Bool). (if b then y ∷ insert_of x (ys ++ (hi ∷ [])) else x ∷ y ∷ ys ++ (hi ∷ [])) ≡ (if b then y ∷ insert_of x ys else x ∷ y ∷ ys) ++ (hi ∷ []))
    (total_less y x) (λ t. ap (λ (l : List Float). y ∷ l) (insert_last hi x ys h)) (λ t. refl)

sort_last : (lo hi : Float) (xs : List Float) → All (Strict lo hi) xs → sorted_points (xs ++ (hi ∷ [])) ≡ sorted_points xs ++ (hi ∷ [])
unfolding sort_by insert_by
sort_last lo hi [] a = refl
sort_last lo hi (x ∷ xs) a = ap (λ (l : List Float). insert_of x l) (sort_last lo hi xs a.1) ∙ insert_last hi x (sorted_points xs) a.0.1

insert_first : (lo hi : Float) (ys : List Float) → T (lt lo hi) → All (Strict lo hi) ys → insert_of lo (ys ++ (hi ∷ [])) ≡ lo ∷ ys ++ (hi ∷ [])
unfolding insert_by
insert_first lo hi [] h a = rw (not_before lo hi h)
insert_first lo hi (y ∷ ys) h a = rw (not_before lo y a.0.0)

-- at most two ties
few : (lo hi : Float) (r : RealRoots) → length (inside lo hi (root_list r)) ≤ 2
unfolding inside root_list
few lo hi RealRoots.None = omega arith
few lo hi (One x) = branch (λ (l : List Float). length l ≤ 2) (lt lo x && lt x hi) (λ t. omega arith) (λ t. omega arith)
few lo hi (Two x y) =
    branch (λ (l : List Float). length l ≤ 2) (lt lo x && lt x hi)
    (λ t. branch (λ (l : List Float). suc (length l) ≤ 2) (lt lo y && lt y hi) (λ u. omega arith) (λ u. omega arith))
    (λ t. branch (λ (l : List Float). length l ≤ 2) (lt lo y && lt y hi) (λ u. omega arith) (λ u. omega arith))

length_insert : (x : Float) (ys : List Float) → length (insert_of x ys) ≡ suc (length ys)
unfolding insert_by
length_insert x [] = refl
length_insert x (y ∷ ys) = branch (λ (l : List Float). length l ≡ suc (suc (length ys))) (total_less y x) (λ t. ap suc (length_insert x ys)) (λ t. refl)

length_sorted : (xs : List Float) → length (sorted_points xs) ≡ length xs
unfolding sort_by
length_sorted [] = refl
length_sorted (x ∷ xs) = length_insert x (sorted_points xs) ∙ ap suc (length_sorted xs)

-- the ties, in order
abbrev ties : Src → Src → Float → Float → List Float
ties p q lo hi = sorted_points (inside lo hi (root_list (ties_of p q)))

module _ (p q : Src) (lo hi : Float) (rise : T (lt lo hi)) where
  ties_strict : All (Strict lo hi) (ties p q lo hi)
  ties_strict = all_sort_by total_less (Strict lo hi) (inside lo hi (root_list (ties_of p q))) (kept_strict lo hi (root_list (ties_of p q)))

  pts_are : pts_of p q lo hi ≡ lo ∷ ties p q lo hi ++ (hi ∷ [])
  unfolding pts_of sort_by
  pts_are = ap (λ (l : List Float). insert_of lo l) (sort_last lo hi (inside lo hi (root_list (ties_of p q))) (kept_strict lo hi (root_list (ties_of p q)))) ∙ insert_first lo hi (ties p q lo hi) rise ties_strict

  at_most_four : length (pts_of p q lo hi) ≤ 4
  at_most_four =
      let e : length (pts_of p q lo hi) ≡ suc (length (ties p q lo hi) + 1) = ap length pts_are ∙ ap suc (length-append (ties p q lo hi) (hi ∷ [])) in
      omega (arith, e, length_sorted (inside lo hi (root_list (ties_of p q))), few lo hi (ties_of p q))

-- ---- what is asked lies from lo to hi
abbrev NotShorter : Ordering → Type 0
NotShorter Less = ⊥
NotShorter Equal = Unit {0}
NotShorter Greater = Unit {0}

pub record Stretch (lo hi : Float) : Type 0 where
  pub start : Point lo
  pub end : Point hi
  pub rises : T (lt lo hi)
  pub twice_start : T (finite (lo ⊕ lo))
  pub twice_end : T (finite (hi ⊕ hi))

module _ (p q : Src) (lo hi : Float) (S : Stretch lo hi) where
  middle_inside : (x y : Float) → Inside lo hi x → Inside lo hi y → Inside lo hi ((x ⊕ y) ⊘ two)
  middle_inside x y g k =
      let m = (x ⊕ y) ⊘ two in
      let a = middle_above binary64 x y g.point.number k.point.number lo S.start.number S.start.double S.twice_start g.above k.above in
      let b = middle_below binary64 x y g.point.number k.point.number hi S.end.number S.end.double S.twice_end g.below k.below in
      record { point = record { number = finite_between lo m hi S.start.number S.end.number a b; double = div-fits binary64 (x ⊕ y) two }; above = a; below = b }

  pts_inside : All (Inside lo hi) (pts_of p q lo hi)
  pts_inside = pts_all lo hi S.start S.end S.rises p q

  -- no change of sign
  module _ (calm : (x y : Float) → Inside lo hi x → Inside lo hi y → change_of (sign_of p q x) (sign_of p q y) ≡ false) where
    no_cut : (x0 x1 : Float) → Inside lo hi x0 → Inside lo hi x1 → cut_of p q x0 x1 ≡ None
    no_cut x0 x1 g k =
        let m = middle_inside x0 x1 g k in
        sym (by_cases (λ (b : Bool). lt x0 x1 ≡ b → None ≡ cut_of p q x0 x1) (lt x0 x1)
        (λ t e. cut_none p q x0 x1 e (calm x0 ((x0 ⊕ x1) ⊘ two) g m) (calm ((x0 ⊕ x1) ⊘ two) x1 m k))
        (λ t e. cut_flat p q x0 x1 e) refl)

    walk_same : (xs : List Float) → All (Inside lo hi) xs → walk_of p q xs ≡ xs
    unfolding walk_of points_behind
    walk_same [] a = refl
    walk_same (x ∷ []) a = refl
    walk_same (x0 ∷ x1 ∷ xs) a = walk_next p q x0 x1 xs (no_cut x0 x1 a.0 a.1.0) ∙ ap (λ (l : List Float). x0 ∷ l) (walk_same (x1 ∷ xs) a.1)

    points_same : walk_of p q (pts_of p q lo hi) ≡ pts_of p q lo hi
    points_same = walk_same (pts_of p q lo hi) pts_inside

    walk_short : length (walk_of p q (pts_of p q lo hi)) ≤ 4
    walk_short = rw points_same (at_most_four p q lo hi S.rises)

  -- ---- never shorter
  module _ (none : (z : Float) → Inside lo hi z → T (not (shorter (edge_of p z) (edge_of q z)))) where
    sign_none : (z : Float) → Inside lo hi z → NotShorter (sign_of p q z)
    unfolding sign_of
    sign_none z g = branch NotShorter (shorter (edge_of p z) (edge_of q z)) (λ t. absurd (T_not (shorter (edge_of p z) (edge_of q z)) (none z g) t)) (λ t. branch NotShorter (longer (edge_of p z) (edge_of q z)) (λ u. tt) (λ u. tt))

    unchanged : (a b : Ordering) → NotShorter a → NotShorter b → change_of a b ≡ false
    unchanged Less b i j = absurd i
    unchanged Equal b i j = refl
    unchanged Greater Less i j = absurd j
    unchanged Greater Equal i j = refl
    unchanged Greater Greater i j = refl

    calm_none : (x y : Float) → Inside lo hi x → Inside lo hi y → change_of (sign_of p q x) (sign_of p q y) ≡ false
    calm_none x y g k = unchanged (sign_of p q x) (sign_of p q y) (sign_none x g) (sign_none y k)

    between_none : (x0 x1 : Float) → Inside lo hi x0 → Inside lo hi x1 → shorter_between p q x0 x1 ≡ false
    unfolding shorter_between
    between_none x0 x1 g k =
        let m = (x0 ⊕ x1) ⊘ two in
        branch (λ (b : Bool). b ≡ false) (le x1 x0) (λ t. refl) (λ t. is_false (shorter (edge_of p m) (edge_of q m)) (none m (middle_inside x0 x1 g k)))

    stretches_none : (x0 : Float) (xs : List Float) (out : List Interval) → Inside lo hi x0 → All (Inside lo hi) xs → stretches p q x0 xs out ≡ out
    unfolding stretches
    stretches_none x0 [] out g a = refl
    stretches_none x0 (x1 ∷ xs) out g a = rw (between_none x0 x1 g a.0) (stretches_none x1 xs out a.0 a.1)

    out_none : (xs : List Float) → All (Inside lo hi) xs → out_of p q xs ≡ []
    unfolding out_of
    out_none [] a = refl
    out_none (x0 ∷ xs) a = stretches_none x0 xs [] a.0 a.1

    pub never : (length (walk_of p q (pts_of p q lo hi)) ≤ 4) × (better_of p q lo hi ≡ [])
    unfolding better_of
    never = (walk_short calm_none, ap (λ (l : List Float). out_of p q l) (points_same calm_none) ∙ out_none (pts_of p q lo hi) pts_inside)

  -- ---- always shorter
  module _ (all : (z : Float) → Inside lo hi z → T (shorter (edge_of p z) (edge_of q z))) where
    sign_all : (z : Float) → Inside lo hi z → sign_of p q z ≡ Less
    unfolding sign_of
    sign_all z g = rw (is_true (shorter (edge_of p z) (edge_of q z)) (all z g))

    calm_all : (x y : Float) → Inside lo hi x → Inside lo hi y → change_of (sign_of p q x) (sign_of p q y) ≡ false
    calm_all x y g k = rw (sign_all x g, sign_all y k)

    between_all : (x0 x1 : Float) → Inside lo hi x0 → Inside lo hi x1 → T (lt x0 x1) → shorter_between p q x0 x1 ≡ true
    unfolding shorter_between
    between_all x0 x1 g k h =
        let m = (x0 ⊕ x1) ⊘ two in
        rw (is_false (le x1 x0) (not_T (le x1 x0) (λ l. lt_not_le x0 x1 h l))) (is_true (shorter (edge_of p m) (edge_of q m)) (all m (middle_inside x0 x1 g k)))

    between_flat : (x0 x1 : Float) → T (le x1 x0) → shorter_between p q x0 x1 ≡ false
    unfolding shorter_between
    between_flat x0 x1 h = rw (is_true (le x1 x0) h)

    number : (x : Float) → Inside lo hi x → Number x
    number x g = finite_number x g.point.number

    at_end_lem : Inside lo hi hi
    at_end_lem = record { point = S.end; above = lt_le lo hi S.rises; below = le_refl hi (finite_number hi S.end.number) }

    at_start : Inside lo hi lo
    at_start = record { point = S.start; above = le_refl lo (finite_number lo S.start.number); below = lt_le lo hi S.rises }

    joins : (x0 x1 : Float) (xs : List Float) (out : List Interval) → shorter_between p q x0 x1 ≡ true → stretches p q x0 (x1 ∷ xs) out ≡ stretches p q x1 xs (joined out x0 x1)
    unfolding stretches
    joins x0 x1 xs out e = ap (λ (b : Bool). stretches p q x1 xs (if b then joined out x0 x1 else out)) e

    passes : (x0 x1 : Float) (xs : List Float) (out : List Interval) → shorter_between p q x0 x1 ≡ false → stretches p q x0 (x1 ∷ xs) out ≡ stretches p q x1 xs out
    unfolding stretches
    passes x0 x1 xs out e = ap (λ (b : Bool). stretches p q x1 xs (if b then joined out x0 x1 else out)) e

    ends : (x : Float) (out : List Interval) → stretches p q x [] out ≡ out
    unfolding stretches
    ends x out = refl

    first_joined : (x0 x1 : Float) → joined [] x0 x1 ≡ interval x0 x1 ∷ []
    unfolding joined
    first_joined x0 x1 = refl

    continued : (y x0 x1 : Float) → T (eq y x0) → joined (interval lo y ∷ []) x0 x1 ≡ interval lo x1 ∷ []
    unfolding joined
    continued y x0 x1 e = rw (is_true (eq y x0) e)

    -- from x0 on, one stretch being listed that ends there
    rest : (x0 y : Float) (xs : List Float) → T (eq y x0) → Inside lo hi x0 → T (lt x0 hi) → All (Inside lo hi) xs → All (Strict lo hi) xs → Rising Le x0 (xs ++ (hi ∷ []))
        → stretches p q x0 (xs ++ (hi ∷ [])) (interval lo y ∷ []) ≡ interval lo hi ∷ []
    rest x0 y [] e g h a b r = joins x0 hi [] (interval lo y ∷ []) (between_all x0 hi g at_end_lem h) ∙ ends hi (joined (interval lo y ∷ []) x0 hi) ∙ continued y x0 hi e
    rest x0 y (x1 ∷ xs) e g h a b r = elim (le_or_lt x1 x0 (number x1 a.0) (number x0 g)) [
      | inl t ↦
          passes x0 x1 (xs ++ (hi ∷ [])) (interval lo y ∷ []) (between_flat x0 x1 t)
          ∙ rest x1 y xs (eq_trans y x0 x1 e (le_antisym x0 x1 r.0 t)) a.0 b.0.1 a.1 b.1 r.1
      | inr t ↦
          joins x0 x1 (xs ++ (hi ∷ [])) (interval lo y ∷ []) (between_all x0 x1 g a.0 t)
          ∙ ap (λ (out : List Interval). stretches p q x1 (xs ++ (hi ∷ [])) out) (continued y x0 x1 e)
          ∙ rest x1 x1 xs (eq_refl x1 (number x1 a.0)) a.0 b.0.1 a.1 b.1 r.1
    ]

    -- the first stretch
    first : (xs : List Float) → All (Inside lo hi) xs → All (Strict lo hi) xs → Rising Le lo (xs ++ (hi ∷ [])) → stretches p q lo (xs ++ (hi ∷ [])) [] ≡ interval lo hi ∷ []
    first [] a b r = joins lo hi [] [] (between_all lo hi at_start at_end_lem S.rises) ∙ ends hi (joined [] lo hi) ∙ first_joined lo hi
    first (x ∷ xs) a b r =
        joins lo x (xs ++ (hi ∷ [])) [] (between_all lo x at_start a.0 b.0.0)
        ∙ ap (λ (out : List Interval). stretches p q x (xs ++ (hi ∷ [])) out) (first_joined lo x)
        ∙ rest x x xs (eq_refl x (number x a.0)) a.0 b.0.1 a.1 b.1 r.1

    pub always : (length (walk_of p q (pts_of p q lo hi)) ≤ 4) × (better_of p q lo hi ≡ interval lo hi ∷ [])
    unfolding better_of out_of
    always =
        let e = pts_are p q lo hi S.rises in
        let mid = ties p q lo hi in
        let inner = all_left (Inside lo hi) mid (hi ∷ []) (subst (All (Inside lo hi)) e pts_inside).1 in
        let rising = subst Rises e (pts_rises lo hi S.start S.end S.rises p q) in
        (walk_short calm_all, ap (λ (l : List Float). out_of p q l) (points_same calm_all ∙ e) ∙ first mid inner (ties_strict p q lo hi S.rises) rising)
