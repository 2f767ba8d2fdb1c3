-- The vertex of a face nearest to a point, as the Rust's `vertex_wedge` finds it. Definitions only.
use Rattle.std.specs.Prelude.{ℕ, ◌+◌, ◌*◌, List, Float, get_or, if◌then◌else◌}
use Rattle.layout.specs.Layout.{vertices_per_triangle}
use Rattle.float64.specs.TotalOrder.{total_less}
use Rattle.vec3.specs.declared.Vec3.{Vec3}
use Rattle.vec3.specs.Vec.{sub_of, norm_of}
use Rattle.job_checks.specs.Edge.{vertex_at}

-- the Rust's `norm(sub(v, p))` of vertex k
abbrev pub distance_to : List Float → Vec3 → ℕ → Float
distance_to v p k = norm_of (sub_of (vertex_at v k) p)

-- `min_by` takes the second of two only where it is less
unfoldable pub nearer_of : List Float → Vec3 → ℕ → ℕ → ℕ
nearer_of v p a b = if total_less (distance_to v p b) (distance_to v p a) then b else a

-- over the three vertices of face f, in their order
unfoldable pub nearest_at : List Float → List ℕ → ℕ → Vec3 → ℕ
nearest_at v triangles f p = nearer_of v p (nearer_of v p (get_or triangles (vertices_per_triangle * f + 0) 0) (get_or triangles (vertices_per_triangle * f + 1) 0)) (get_or triangles (vertices_per_triangle * f + 2) 0)
