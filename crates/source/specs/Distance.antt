-- The distance that a source gives along an edge and across it, and a window's value: the Rust's `Src`, `ties` and `Win::eval`. Definitions only.
-- The frame is the edge's: x along it, y across it, away from the source.
use Rattle.std.specs.Prelude.{◌&&◌, Float, if◌then◌else◌}
use Rattle.std.specs.Float.{binary64}
use Rattle.std.specs.Float.Ieee.{neg, lt, le, eq, ne}
use Rattle.root_spec.specs.Root.{hypot_of}
use Rattle.float64.specs.Scalar.{zero64, one, two, min_of, abs_of, clamp_of}
use Rattle.float64.specs.Notation.{◌⊕◌, ◌⊖◌, ◌⊗◌, ◌⊘◌}
use Rattle.source.specs.Quadratic.{four, eight, roots_of}
use Rattle.source.specs.declared.RealRoots.{RealRoots}
use Rattle.source.specs.declared.RealRoots.TheVariants.{None, One}
use Rattle.source.specs.declared.Src.{Src}
use Rattle.source.specs.declared.Src.TheVariants.{Point, Line}
use Rattle.source.specs.declared.Win.{Win}

-- the distance at x on the edge
unfoldable pub edge_of : Src → Float → Float
edge_of (Point sx sy s) x = hypot_of binary64 (x ⊖ sx) sy ⊕ s
edge_of (Line ux uy c) x = c ⊕ ux ⊗ x

-- the distance at (x, y) along the pencil of rays, unrestricted
unfoldable pub free_of : Src → Float → Float → Float
free_of (Point sx sy s) x y = hypot_of binary64 (x ⊖ sx) (y ⊖ sy) ⊕ s
free_of (Line ux uy c) x y = c ⊕ ux ⊗ x ⊕ uy ⊗ y

-- where the ray back from (x, y) crosses the edge
unfoldable pub foot_of : Src → Float → Float → Float
foot_of (Point sx sy s) x y =
    let k = y ⊖ sy in
    if lt zero64 k then x ⊕ (sx ⊖ x) ⊗ y ⊘ k else x
foot_of (Line ux uy c) x y = if lt zero64 uy then x ⊖ ux ⊗ y ⊘ uy else x

-- the least distance from b0 to b1 on the edge
unfoldable pub lowest_of : Src → Float → Float → Float
lowest_of (Point x y s) b0 b1 = if le b0 x && le x b1 then abs_of y ⊕ s else min_of (edge_of (Point x y s) b0) (edge_of (Point x y s) b1)
lowest_of (Line ux uy c) b0 b1 = min_of (edge_of (Line ux uy c) b0) (edge_of (Line ux uy c) b1)

-- where two points are equally far
unfoldable pub ties_of_points : Float → Float → Float → Float → Float → Float → RealRoots
ties_of_points a0 h0 s0 a1 h1 s1 =
    let b = s1 ⊖ s0 in
    let k1 = two ⊗ (a1 ⊖ a0) in
    let k0 = a0 ⊗ a0 ⊕ h0 ⊗ h0 ⊖ a1 ⊗ a1 ⊖ h1 ⊗ h1 ⊖ b ⊗ b in
    if eq b zero64 then (if ne k1 zero64 then One (neg k0 ⊘ k1) else None) else
    roots_of
    (k1 ⊗ k1 ⊖ four ⊗ b ⊗ b)
    (two ⊗ k1 ⊗ k0 ⊕ eight ⊗ b ⊗ b ⊗ a1)
    (k0 ⊗ k0 ⊖ four ⊗ b ⊗ b ⊗ (a1 ⊗ a1 ⊕ h1 ⊗ h1))

-- where a point and a line are equally far
unfoldable pub ties_of_point_line : Float → Float → Float → Float → Float → RealRoots
ties_of_point_line a h s ux c =
    let n = c ⊖ s in
    roots_of (one ⊖ ux ⊗ ux) (neg two ⊗ a ⊖ two ⊗ ux ⊗ n) (a ⊗ a ⊕ h ⊗ h ⊖ n ⊗ n)

-- where two sources are equally far on the edge
unfoldable pub ties_of : Src → Src → RealRoots
ties_of (Point a0 h0 s0) (Point a1 h1 s1) = ties_of_points a0 h0 s0 a1 h1 s1
ties_of (Point a h s) (Line ux uy c) = ties_of_point_line a h s ux c
ties_of (Line ux uy c) (Point a h s) = ties_of_point_line a h s ux c
ties_of (Line u0 v0 c0) (Line u1 v1 c1) = if ne u0 u1 then One ((c1 ⊖ c0) ⊘ (u0 ⊖ u1)) else None

-- the least of |p - p'| + D(p') over the p' in the window, for p = (x, y)
unfoldable pub eval_of : Win → Float → Float → Float
eval_of w x y =
    let f = foot_of w.src x y in
    if le w.b0 f && le f w.b1 then free_of w.src x y else
    let q = clamp_of f w.b0 w.b1 in
    hypot_of binary64 (x ⊖ q) y ⊕ edge_of w.src q
