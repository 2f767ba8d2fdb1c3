-- The Rust's `source_point` on values: the part of an edge that lies behind a point's segments, and the window there. Definitions only.
-- In an edge's frame x goes along the edge from its first vertex, and the y of `coords` into the face.
use Rattle.std.specs.Prelude.{Bool, List, [], ◌∷◌, Float, if◌then◌else◌, Option, Some, None}
use Rattle.std.specs.Float.Ieee.{neg, lt, le}
use Rattle.float64.specs.Scalar.{zero64, one, min_of, max_of}
use Rattle.float64.specs.Notation.{◌⊗◌, ◌⊘◌}
use Rattle.vec3.specs.Vec.{scale_of, axpy_of, sub_of, dot_of}
use Rattle.vec3.specs.declared.Vec3.{Vec3}
use Rattle.source.specs.declared.Src.{Src}
use Rattle.source.specs.declared.Src.TheVariants.{Point}
use Rattle.source_windows.specs.Tolerance.{near_edge, too_narrow}
use Rattle.source_windows.specs.declared.Bounds.{Bounds}
use Rattle.source_windows.specs.declared.CandidateWindow.{CandidateWindow}

-- `carrier`'s test, and `on` of `source_point`
abbrev pub lies_on : Float → Float → Bool
lies_on y l = le y (near_edge ⊗ l)

-- a direction of face h in g's plane, unfolded across their common edge xh; yg and yh go into g and h: into h becomes out of g
unfoldable pub unfolded_of : Vec3 → Vec3 → Vec3 → Vec3 → Vec3
unfolded_of d xh yg yh = axpy_of (scale_of xh (dot_of d xh)) (neg (dot_of d yh)) yg

-- the whole edge
abbrev pub whole_of : Float → Bounds
whole_of l = record { b0 = zero64; b1 = l }

-- what is left of a range where k0 + t k1 <= 0
unfoldable pub narrow_of : Bounds → Float → Float → Bounds
narrow_of w k0 k1 =
    if lt zero64 k1 then record { b0 = w.b0; b1 = min_of w.b1 (neg k0 ⊘ k1) } else
    if lt k1 zero64 then record { b0 = max_of w.b0 (neg k0 ⊘ k1); b1 = w.b1 } else
    if lt zero64 k0 then record { b0 = w.b0; b1 = neg one } else
    w

-- and behind a segment that leaves p in the direction d: the edge's points o + t xhat with (o - p) . d + t (xhat . d) <= 0
unfoldable pub behind_of : Vec3 → Vec3 → Vec3 → Bounds → Vec3 → Bounds
behind_of o p xhat w d = narrow_of w (dot_of (sub_of o p) d) (dot_of xhat d)

-- behind every one of a list of directions, in its order
unfoldable pub wedge_of : Vec3 → Vec3 → Vec3 → Bounds → List Vec3 → Bounds
wedge_of o p xhat w [] = w
wedge_of o p xhat w (d ∷ ds) = wedge_of o p xhat (behind_of o p xhat w d) ds

-- a point with `coords` (x, y) as the edge sees it from beyond, carrying the distance s
unfoldable pub point_source_of : Float → Float → Float → Src
point_source_of x y s = Point x (min_of (neg y) zero64) s

-- the window of a source point over what is left of the edge
unfoldable pub point_window_of : Bounds → Float → Float → Float → Option CandidateWindow
point_window_of w x y l = if too_narrow w l then None else Some (record { b0 = w.b0; b1 = w.b1; src = point_source_of x y zero64 })
