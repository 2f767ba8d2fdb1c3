-- The range of a source's values from lo to hi, and what two ranges tell of `better`. Definitions only.
use Rattle.std.specs.Prelude.{ℕ, ◌≤◌, Bool, cond, ◌&&◌, ◌≡◌, List, [], ◌∷◌, length, T, Float, if◌then◌else◌, Option, Some, None}
use Rattle.std.specs.Float.{binary64}
use Rattle.std.specs.Float.Ieee.{neg, lt, le, fits}
use Rattle.float64.specs.Scalar.{zero64, one, max_of, abs_of, is_finite}
use Rattle.float64.specs.Notation.{◌⊕◌, ◌⊖◌, ◌⊗◌}
use Rattle.source.specs.declared.Src.{Src}
use Rattle.source.specs.declared.Src.TheVariants.{Point, Line}
use Rattle.source.specs.Distance.{edge_of, lowest_of}
use Rattle.better.specs.Cutting.{tolerance}
use Rattle.better.specs.Points.{pts_of, walk_of}
use Rattle.better.specs.Stretches.{Interval, interval, better_of}
use Rattle.better.specs.Buffers.{stored, has_entries}
use Rattle.range_test.specs.declared.Ranged.{Ranged}
use Rattle.range_test.specs.declared.Ranged.TheVariants.{Unknown, NeverShorter, AlwaysShorter}

-- the greatest distance from lo to hi on the edge
unfoldable pub highest_of : Src → Float → Float → Float
highest_of (Point x y s) lo hi =
    if le x lo then edge_of (Point x y s) hi else
    if le hi x then edge_of (Point x y s) lo else
    max_of (edge_of (Point x y s) lo) (edge_of (Point x y s) hi)
highest_of (Line ux uy c) lo hi = if le zero64 ux then edge_of (Line ux uy c) hi else edge_of (Line ux uy c) lo

-- the least distance from lo to hi on the edge, at the point nearest to the foot
unfoldable pub nearest_of : Src → Float → Float → Float
nearest_of (Point x y s) lo hi =
    if lt x lo then edge_of (Point x y s) lo else
    if lt hi x then edge_of (Point x y s) hi else
    abs_of y ⊕ s
nearest_of (Line ux uy c) lo hi = if le zero64 ux then edge_of (Line ux uy c) lo else edge_of (Line ux uy c) hi

-- no distance from lo to hi is below -1: `1 + dq` of the tolerance is then not below zero
unfoldable pub from_minus_one : Src → Float → Float → Bool
from_minus_one (Point x y s) lo hi = le (neg one) s
from_minus_one (Line ux uy c) lo hi = le (neg one) (lowest_of (Line ux uy c) lo hi)

-- the numbers that a distance on the edge is computed from are finite
unfoldable pub finite_source : Src → Bool
finite_source (Point x y s) = is_finite (x ⊕ y ⊕ s)
finite_source (Line ux uy c) = is_finite (ux ⊕ c)

-- lo and hi are finite, in order, and so are the sums that middles are halves of
unfoldable pub finite_stretch : Float → Float → Bool
finite_stretch lo hi = lt lo hi && is_finite (lo ⊕ lo) && is_finite (hi ⊕ hi)

-- the offset of a point across the edge is a double: `lowest_of` takes its magnitude, with no root
abbrev pub Across : Src → Type 0
Across (Point x y s) = T (fits binary64 y)
Across (Line ux uy c) = Unit {0}

-- what the tests below are tried on
abbrev pub Comparable : Bool → Src → Src → Float → Float → Type 0
Comparable b p q lo hi = (T b → T (finite_stretch lo hi) × (T (finite_source p) × T (finite_source q))) × (T b → Across p × (Across q × (T (fits binary64 lo) × T (fits binary64 hi))))

-- p is nowhere shorter than q
pub record RangeAbove (p q : Src) (lo hi : Float) : Type 0 where
  pub apart : T (le (highest_of q lo hi) (nearest_of p lo hi))
  pub guard : T (from_minus_one q lo hi)

-- p is shorter than q everywhere: `dp < dq - 1e-10 * (1. + dq)` for an upper bound of dp, a lower one of dq before the tolerance, and an upper one in it
pub record RangeBelow (p q : Src) (lo hi : Float) : Type 0 where
  pub most : Float
  pub least : Float
  pub greatest : Float
  pub p_upto : T (le (highest_of p lo hi) most)
  pub q_from : T (le least (nearest_of q lo hi))
  pub q_upto : T (le (highest_of q lo hi) greatest)
  pub apart : T (lt most (least ⊖ tolerance ⊗ (one ⊕ greatest)))
  pub guard : T (le (neg one) least)
  pub small : T (is_finite (tolerance ⊗ (one ⊕ greatest)))

-- [lo, hi] alone
abbrev pub one_stretch : Float → Float → List Interval
one_stretch lo hi = interval lo hi ∷ []

-- a list of stretches in front of `out`, or that it outgrows it
abbrev pub listing : List Float → List Interval → Option ℕ × List Float
listing out gs = (cond (has_entries gs out) (Some (length gs)) None, stored gs out)

-- what an answer says of `better`: its walk adds no cut, and its answer is empty or [lo, hi] whole
abbrev pub Tells : Src → Src → Float → Float → Ranged → Type 0
Tells p q lo hi Unknown = Unit {0}
Tells p q lo hi NeverShorter = (length (walk_of p q (pts_of p q lo hi)) ≤ 4) × (better_of p q lo hi ≡ [])
Tells p q lo hi AlwaysShorter = (length (walk_of p q (pts_of p q lo hi)) ≤ 4) × (better_of p q lo hi ≡ one_stretch lo hi)
