-- What the range tests tell of `better`, and its answer in buffers then. Assumes nothing.
--     above_of, below_of            the tests, as code finds them
--     tells_never, tells_always     what they tell
--     short_list, whole_list        [lo, hi] in front of a buffer
--     answer_none, answer_whole     the answer of `better`, with room for four points
use Rattle.std.specs.Prelude.{Option, Some, None}
use Prim.Native.Nat.{ℕ, suc, ◌≤◌, ◌<◌}
use native.Mathlib.Omega.{arith}
use mathlib.Core.Bool.{Bool, true, ◌&&◌}
use mathlib.Core.Path.{◌≡◌, refl, sym, ap, ◌∙◌, subst}
use mathlib.Core.List.{List, [], ◌∷◌}
use borrow.Author.Tests.{le-leb}
use lib.Dec.{T}
use lib.ListN.{length, set}
use lib.Ieee.{Float, binary64, neg, lt, le, fits}
use lib.Ieee.Fits.{and_l, and_r, add-fits}
use Rattle.root_spec.specs.Root.{hypot_of}
use Rattle.float64.specs.Scalar.{one, is_finite}
use Rattle.float64.specs.Notation.{◌⊕◌, ◌⊖◌, ◌⊗◌}
use Rattle.float_laws.proofs.Order.{le_trans}
use Rattle.float_monotone.proofs.SumOrder.{sum_finite}
use Rattle.source.specs.declared.Src.{Src}
use Rattle.source.specs.declared.Src.TheVariants.{Point, Line}
use Rattle.source.specs.Distance.{edge_of}
use Rattle.better.specs.Cutting.{tolerance}
use Rattle.better.specs.Stretches.{Interval}
use Rattle.better.specs.Buffers.{stored, bettering}
use Rattle.better.proofs.Points.{Inside}
use Rattle.range_test.specs.Range.{highest_of, nearest_of, from_minus_one, finite_source, finite_stretch, Across, Comparable, RangeAbove, RangeBelow, Tells, listing, one_stretch}
use Rattle.range_test.specs.declared.Ranged.TheVariants.{NeverShorter, AlwaysShorter}
use Rattle.range_test.proofs.Bounds.{finite_source_lem, edge_low_lem, edge_high_lem, edge_from_minus_one}
use Rattle.range_test.proofs.Values.{not_shorter, surely_shorter}
use Rattle.range_test.proofs.Walks.{Stretch, never, always}

edge_fits : (src : Src) (z : Float) → T (fits binary64 (edge_of src z))
unfolding edge_of
edge_fits (Point x y s) z = add-fits binary64 (hypot_of binary64 (z ⊖ x) y) s
edge_fits (Line ux uy c) z = add-fits binary64 c (ux ⊗ z)

stretch_of : (lo hi : Float) → T (finite_stretch lo hi) → T (fits binary64 lo) → T (fits binary64 hi) → Stretch lo hi
unfolding finite_stretch
stretch_of lo hi h l k =
    let a = and_l (lt lo hi && is_finite (lo ⊕ lo)) (is_finite (hi ⊕ hi)) h in
    let b = and_r (lt lo hi && is_finite (lo ⊕ lo)) (is_finite (hi ⊕ hi)) h in
    let c = and_r (lt lo hi) (is_finite (lo ⊕ lo)) a in
    record {
      start = record { number = (sum_finite binary64 lo lo c).0; double = l };
      end = record { number = (sum_finite binary64 hi hi b).0; double = k };
      rises = and_l (lt lo hi) (is_finite (lo ⊕ lo)) a;
      twice_start = c;
      twice_end = b;
    }

-- ---- what the tests tell
module _ (p q : Src) (lo hi : Float) (c : Comparable true p q lo hi) where
  S : Stretch lo hi
  S = stretch_of lo hi (c.0 tt).0 (c.1 tt).1.1.0 (c.1 tt).1.1.1

  low : (src : Src) → T (finite_source src) → Across src → (z : Float) → Inside lo hi z → T (le (nearest_of src lo hi) (edge_of src z))
  low src F a z g = edge_low_lem lo hi S.start.number S.end.number z g src (finite_source_lem src F) a

  high : (src : Src) → T (finite_source src) → (z : Float) → Inside lo hi z → T (le (edge_of src z) (highest_of src lo hi))
  high src F z g = edge_high_lem lo hi S.start.number S.end.number z g src (finite_source_lem src F)

  pub tells_never : RangeAbove p q lo hi → Tells p q lo hi NeverShorter
  tells_never h =
      never p q lo hi S (λ z g.
      not_shorter (edge_of p z) (edge_of q z) (edge_fits q z)
      (edge_from_minus_one lo hi S.start.number S.end.number z g q (finite_source_lem q (c.0 tt).1.1) h.guard)
      (le_trans (edge_of q z) (highest_of q lo hi) (edge_of p z) (high q (c.0 tt).1.1 z g)
      (le_trans (highest_of q lo hi) (nearest_of p lo hi) (edge_of p z) h.apart (low p (c.0 tt).1.0 (c.1 tt).0 z g))))

  pub tells_always : RangeBelow p q lo hi → Tells p q lo hi AlwaysShorter
  tells_always h =
      always p q lo hi S (λ z g.
      surely_shorter (edge_of p z) (edge_of q z) h.most h.least h.greatest h.small h.guard
      (le_trans (edge_of p z) (highest_of p lo hi) h.most (high p (c.0 tt).1.0 z g) h.p_upto)
      (le_trans h.least (nearest_of q lo hi) (edge_of q z) h.q_from (low q (c.0 tt).1.1 (c.1 tt).1.0 z g))
      (le_trans (edge_of q z) (highest_of q lo hi) h.greatest (high q (c.0 tt).1.1 z g) h.q_upto) h.apart)

-- ---- the tests, as code finds them
pub above_of : (p q : Src) (lo hi most least : Float) (b : Bool) → T (le (highest_of q lo hi) most) → T (le least (nearest_of p lo hi)) → le most least ≡ true → b ≡ from_minus_one q lo hi → T b → RangeAbove p q lo hi
above_of p q lo hi most least b h k e f t = record {
  apart = le_trans (highest_of q lo hi) most (nearest_of p lo hi) h (le_trans most least (nearest_of p lo hi) (subst T (sym e) tt) k);
  guard = subst T f t;
}

pub below_of : (p q : Src) (lo hi most least greatest : Float) (b : Bool) → T (le (highest_of p lo hi) most) → T (le least (nearest_of q lo hi)) → T (le (highest_of q lo hi) greatest)
    → b ≡ (lt most (least ⊖ tolerance ⊗ (one ⊕ greatest)) && le (neg one) least && is_finite (tolerance ⊗ (one ⊕ greatest))) → T b → RangeBelow p q lo hi
below_of p q lo hi most least greatest b h k l e t =
    let tol = tolerance ⊗ (one ⊕ greatest) in
    let apart = lt most (least ⊖ tol) in
    let guard = le (neg one) least in
    let u = subst T e t in
    let a = and_l (apart && guard) (is_finite tol) u in
    record {
      most = most;
      least = least;
      greatest = greatest;
      p_upto = h;
      q_from = k;
      q_upto = l;
      apart = and_l apart guard a;
      guard = and_r apart guard a;
      small = and_r (apart && guard) (is_finite tol) u;
    }

-- ---- no stretch, and one, in front of a buffer
none_list : (out : List Float) → ◌≡◌ {A = Option ℕ × List Float} (Some 0, out) (listing out [])
unfolding stored
none_list out = rw (le-leb 0 (length out) (omega arith))

pub short_list : (lo hi : Float) (out : List Float) → length out < 2 → (None, out) ≡ listing out (one_stretch lo hi)
unfolding stored
short_list lo hi [] h = refl
short_list lo hi (a ∷ []) h = refl
short_list lo hi (a ∷ b ∷ l) h = let z : ⊥ = omega arith in absurd z

pub whole_list : (lo hi : Float) (out : List Float) → 2 ≤ length out → (Some 1, set (set out 0 lo) 1 hi) ≡ listing out (one_stretch lo hi)
unfolding stored
whole_list lo hi [] h = let z : ⊥ = omega arith in absurd z
whole_list lo hi (a ∷ []) h = let z : ⊥ = omega arith in absurd z
whole_list lo hi (a ∷ b ∷ l) h = rw (le-leb 2 (suc (suc (length l))) (omega arith))

-- ---- the answer of `better`
module _ (size : ℕ) (out pts : List Float) (gs : List Interval) (room : 4 ≤ size) (few : length pts ≤ 4) where
  settled : bettering size out pts gs ≡ listing out gs
  unfolding bettering
  settled = rw (le-leb (length pts) size (omega arith))

  pub answer_none : gs ≡ [] → (Some 0, out) ≡ bettering size out pts gs
  answer_none e = none_list out ∙ ap (listing out) (sym e) ∙ sym settled

  pub answer_whole : (lo hi : Float) (r : Option ℕ) (after : List Float) → gs ≡ one_stretch lo hi → (r, after) ≡ listing out (one_stretch lo hi) → (r, after) ≡ bettering size out pts gs
  answer_whole lo hi r after e h = h ∙ ap (listing out) (sym e) ∙ sym settled
