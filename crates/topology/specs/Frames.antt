-- The numbers of the Rust's Topology::new: each edge's length and unit vector, each face's inward normals; and coordinates in the frame of an edge. Definitions only.
use Rattle.std.specs.Prelude.{ℕ, ◌+◌, ◌*◌, List, get_or, Float}
use Rattle.float64.specs.Scalar.{one}
use Rattle.float64.specs.Notation.{◌⊘◌}
use Rattle.vec3.specs.declared.Vec3.{Vec3}
use Rattle.vec3.specs.Vec.{scale_of, sub_of, dot_of}
use Rattle.job_checks.specs.Edge.{vertex_at, len_of, xhat_of, perpendicular_of, altitude_of}
use Rattle.topology.specs.Edges.{no_edge, edges, side_vertex, tri_edge, local}

module _ (v : List Float) (triangles : List ℕ) where
  -- where edge e starts and ends
  unfoldable pub origin : ℕ → Vec3
  origin e = vertex_at v (get_or (edges triangles) e no_edge).low

  unfoldable pub end : ℕ → Vec3
  end e = vertex_at v (get_or (edges triangles) e no_edge).high

  unfoldable pub len : ℕ → Float
  len e = len_of (origin e) (end e)

  unfoldable pub xhat : ℕ → Vec3
  xhat e = xhat_of (origin e) (end e)

  -- of side h: into its face, at a right angle to it
  unfoldable pub yhat : ℕ → Vec3
  yhat h =
      let e : ℕ = tri_edge triangles h in
      let apex : Vec3 = vertex_at v (side_vertex triangles h 2) in
      scale_of (perpendicular_of (origin e) (end e) apex) (one ⊘ altitude_of (origin e) (end e) apex)

  -- p in the frame of edge e, of which face f is on the side of positive y
  unfoldable pub coords_x : ℕ → Vec3 → Float
  coords_x e p = dot_of (sub_of p (origin e)) (xhat e)

  unfoldable pub coords_y : ℕ → ℕ → Vec3 → Float
  coords_y e f p = dot_of (sub_of p (origin e)) (yhat (3 * f + local triangles f e))
