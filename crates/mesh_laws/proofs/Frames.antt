-- The frames of a mesh whose vertices are in range and whose triangles are valid and regular: lengths, unit vectors, normals and coordinates are finite. Assumes nothing.
--     len_bounds (finite doubles from 0.001 to 3,464,102), xhat_finite, yhat_finite, coords_x_finite, coords_y_finite (of points in range)
use Prim.Native.Nat.{ℕ, ◌+◌, ◌*◌, ◌/◌, ◌<◌}
use mathlib.Core.List.{List}
use native.Mathlib.Omega.{arith}
use lib.Dec.{T}
use lib.ListN.{length, get_or}
use lib.Ieee.{Float, le}
use lib.Ieee.Scale.{finite}
use Rattle.nat_laws.proofs.Tests.{holds}
use Rattle.vec3.specs.declared.Vec3.{Vec3}
use Rattle.vec3.specs.Vec.{sub_of, dot_of}
use Rattle.job_checks.specs.Edge.{vertex_at, len_of, xhat_of, altitude_of}
use Rattle.job_checks.specs.Refusals.{min_length, min_altitude}
use Rattle.topology.specs.Checked.{ValidTriangles, VerticesInRange, RegularTriangles}
use Rattle.topology.specs.Edges.{no_edge, side_vertex, edges, tri_edge, local}
use Rattle.topology.specs.Frames.{origin, end, len, xhat, yhat, coords_x, coords_y}
use Rattle.topology.proofs.Checked.{edge_ends, side_vertex_there, inside}
use Rattle.topology.proofs.Edges.{tri_edge_there}
use Rattle.topology.proofs.Frames.{edge_long, altitude_tall}
use Rattle.topology.proofs.Sides.{local_below}
use Rattle.mesh_laws.specs.Bounds.{VecWithin, FiniteVec, PointInRange, EdgeLength}
use Rattle.mesh_laws.proofs.Edges.{normal, vertex_in_range, length_of, unit_of_lem, along_within, normal_of_lem, across_within, unit_finite, normal_finite, along_finite, across_finite}

module _ (v : List Float) (triangles : List ℕ) (s : ValidTriangles triangles (length v / 3)) (g : VerticesInRange v) (r : RegularTriangles v triangles) where
  pub vertex_point : (k : ℕ) → k < length v / 3 → PointInRange (vertex_at v k)
  vertex_point k l = vertex_in_range v k g (omega arith)

  module _ (e : ℕ) (l : e < length (edges triangles)) where
    ends : ((get_or (edges triangles) e no_edge).low < (get_or (edges triangles) e no_edge).high) × ((get_or (edges triangles) e no_edge).high < length v / 3)
    ends = edge_ends triangles (length v / 3) s e l

    pub origin_point : PointInRange (origin v triangles e)
    unfolding origin
    origin_point = vertex_point (get_or (edges triangles) e no_edge).low (omega (arith, ends))

    pub end_point_lem : PointInRange (end v triangles e)
    unfolding end
    end_point_lem = vertex_point (get_or (edges triangles) e no_edge).high ends.1

    long : T (le min_length (len_of (origin v triangles e) (end v triangles e)))
    unfolding len
    long = holds (le min_length (len_of (origin v triangles e) (end v triangles e))) (edge_long v triangles (length v / 3) s r e l)

    pub len_bounds : EdgeLength (len v triangles e)
    unfolding len
    len_bounds = length_of (origin v triangles e) (end v triangles e) origin_point end_point_lem long

    pub xhat_finite : FiniteVec (xhat v triangles e)
    unfolding xhat
    xhat_finite = unit_finite (xhat_of (origin v triangles e) (end v triangles e)) (unit_of_lem (origin v triangles e) (end v triangles e) origin_point end_point_lem long)

    pub coords_x_finite : (p : Vec3) → PointInRange p → T (finite (coords_x v triangles e p))
    unfolding coords_x xhat
    coords_x_finite p h = along_finite (dot_of (sub_of p (origin v triangles e)) (xhat_of (origin v triangles e) (end v triangles e))) (along_within (origin v triangles e) (end v triangles e) origin_point end_point_lem long p h)

  module _ (h : ℕ) (l : h < length triangles) where
    normal_within : VecWithin normal (yhat v triangles h)
    unfolding yhat
    normal_within =
        let e = tri_edge triangles h in
        let m : e < length (edges triangles) = tri_edge_there triangles h l in
        let t = vertex_at v (side_vertex triangles h 2) in
        normal_of_lem (origin v triangles e) (end v triangles e) (origin_point e m) (end_point_lem e m) (long e m) t (vertex_point (side_vertex triangles h 2) (side_vertex_there triangles (length v / 3) s h 2 l))
        (holds (le min_altitude (altitude_of (origin v triangles e) (end v triangles e) t)) (altitude_tall v triangles (length v / 3) s r h l))

    pub yhat_finite : FiniteVec (yhat v triangles h)
    yhat_finite = normal_finite (yhat v triangles h) normal_within

  pub coords_y_finite : (e f : ℕ) → e < length (edges triangles) → f < length triangles / 3 → (p : Vec3) → PointInRange p → T (finite (coords_y v triangles e f p))
  unfolding coords_y
  coords_y_finite e f l m p h =
      across_finite (dot_of (sub_of p (origin v triangles e)) (yhat v triangles (3 * f + local triangles f e)))
      (across_within (origin v triangles e) p (yhat v triangles (3 * f + local triangles f e)) (origin_point e l) h
      (normal_within (3 * f + local triangles f e) (omega (arith, inside triangles (length v / 3) s f m, local_below triangles f e))))
