-- The distances that the Rust's `at` and `edge_at` take the least of, on values. Definitions only.
use Rattle.std.specs.Prelude.{Float, if◌then◌else◌}
use Rattle.std.specs.Float.{binary64}
use Rattle.std.specs.Float.Ieee.{of_bits, lt}
use Rattle.float64.specs.Scalar.{zero64, one, min_of, max_of, clamp_of}
use Rattle.float64.specs.Notation.{◌⊕◌, ◌⊖◌, ◌⊘◌}
use Rattle.vec3.specs.Vec.{axpy_of, sub_of, dot_of, norm_of}
use Rattle.vec3.specs.declared.Vec3.{Vec3}
use Rattle.source.specs.Distance.{eval_of}
use Rattle.source.specs.declared.Win.{Win}

-- 1e-300: a segment's square is not taken below it, so that a segment of no length divides by a number above zero
abbrev pub least_segment_square : Float
least_segment_square = of_bits binary64 0x01a5_6e1f_c2f8_f359

-- from p to a source point q of the face, and to the nearest point of a source segment from a to b
unfoldable pub to_point : Vec3 → Vec3 → Float
to_point p q = norm_of (sub_of p q)

unfoldable pub to_segment : Vec3 → Vec3 → Vec3 → Float
to_segment p a b =
    let ab = sub_of b a in
    let s = clamp_of (dot_of (sub_of p a) ab ⊘ max_of (dot_of ab ab) least_segment_square) zero64 one in
    norm_of (sub_of p (axpy_of a s ab))

-- through a vertex v at distance d
unfoldable pub through_vertex : Vec3 → Vec3 → Float → Float
through_vertex p v d = norm_of (sub_of p v) ⊕ d

-- the least of d and of what a window gives at (x, y), which is not evaluated where y and its least value come to d
unfoldable pub through_window : Float → Win → Float → Float → Float
through_window d w x y = if lt (y ⊕ w.low) d then min_of d (eval_of w x y) else d

-- at x on an edge of length l, through its ends at distances da and db
unfoldable pub through_ends : Float → Float → Float → Float → Float
through_ends da db l x = min_of (da ⊕ x) (db ⊕ l ⊖ x)
