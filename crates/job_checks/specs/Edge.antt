-- An edge from its vertex o, the lower-numbered one, to b, and the triangle over it: the numbers as the Rust's Topology::new computes them. Definitions only.
use Rattle.std.specs.Prelude.{ℕ, ◌+◌, ◌*◌, cond, List, ltb, get_or, Float}
use Rattle.std.specs.Float.{nan}
use Rattle.std.specs.Float.Ieee.{neg}
use Rattle.layout.specs.Layout.{coordinates_per_vertex}
use Rattle.float64.specs.Scalar.{one}
use Rattle.float64.specs.Notation.{◌⊘◌}
use Rattle.vec3.specs.declared.Vec3.{Vec3}
use Rattle.vec3.specs.Vec.{scale_of, axpy_of, sub_of, dot_of, norm_of}

-- vertex k of a list with three coordinates for each
abbrev pub vertex_at : List Float → ℕ → Vec3
vertex_at v k = record { x = get_or v (coordinates_per_vertex * k) nan; y = get_or v (coordinates_per_vertex * k + 1) nan; z = get_or v (coordinates_per_vertex * k + 2) nan }

-- the two vertex numbers of an edge in order
abbrev pub lower : ℕ → ℕ → ℕ
lower a b = cond (ltb a b) a b

abbrev pub higher : ℕ → ℕ → ℕ
higher a b = cond (ltb a b) b a

unfoldable pub len_of : Vec3 → Vec3 → Float
len_of o b = norm_of (sub_of b o)

-- the unit vector along the edge
unfoldable pub xhat_of : Vec3 → Vec3 → Vec3
unfolding len_of
xhat_of o b = scale_of (sub_of b o) (one ⊘ len_of o b)

-- from an edge, with its start and its unit vector, to the third vertex, at a right angle
unfoldable pub perpendicular_from : Vec3 → Vec3 → Vec3 → Vec3
perpendicular_from o xhat third =
    let w : Vec3 = sub_of third o in
    axpy_of w (neg (dot_of w xhat)) xhat

unfoldable pub perpendicular_of : Vec3 → Vec3 → Vec3 → Vec3
unfolding xhat_of perpendicular_from
perpendicular_of o b third = perpendicular_from o (xhat_of o b) third

-- document 01's height of the third vertex over the edge: what `yhat` is divided by
unfoldable pub altitude_of : Vec3 → Vec3 → Vec3 → Float
unfolding perpendicular_of
altitude_of o b third = norm_of (perpendicular_of o b third)
