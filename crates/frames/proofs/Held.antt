-- What `lengths` and `normals` leave is the topology's where the words are. Assumes nothing.
use Prim.Native.Nat.{ℕ, ◌+◌, ◌*◌, ◌<◌, ◌≤◌}
use mathlib.Core.Path.{◌≡◌, refl, sym, ap, ◌∙◌}
use mathlib.Core.List.{List}
use native.Mathlib.Omega.{arith}
use lib.ListN.{length, get_or}
use lib.Ieee.{Float, nan}
use Rattle.layout.specs.Layout.{reals_per_edge, edge_len, edge_unit, reals_per_triangle, reals_per_normal}
use Rattle.float64.specs.Scalar.{one}
use Rattle.float64.specs.Notation.{◌⊘◌}
use Rattle.vec3.specs.declared.Vec3.{Vec3}
use Rattle.vec3.specs.Vec.{scale_of}
use Rattle.job_checks.specs.Edge.{vertex_at, len_of, xhat_of, perpendicular_from, perpendicular_of, altitude_of}
use Rattle.topology.specs.Edges.{side_vertex, edges, tri_edge}
use Rattle.topology.specs.Frames.{origin, end, len, xhat, yhat}
use Rattle.topology.proofs.Edges.{tri_edge_there, tri_edge_is}
use Rattle.frames.specs.Stored.{vector_at, length_at, unit_at, normal_at, unit_of, length_row, origin_at, edge_end, with_lengths, perpendicular_at, normal_of, with_normals}
use Rattle.frames.specs.Held.{HoldsEdges, HoldsSides, HoldsLengths, HoldsNormals}
use Rattle.frames.proofs.Rows.{rows_at, vectors_at}

module _ (v : List Float) (edge_words : List ℕ) (n : ℕ) (r : List Float) where
  lengths_at : (e a : ℕ) → e < n → reals_per_edge * n ≤ length r → a < reals_per_edge → get_or (with_lengths v edge_words n r) (reals_per_edge * e + a) nan ≡ get_or (length_row v edge_words e) a nan
  unfolding length_row
  lengths_at e a l m b = rows_at reals_per_edge (length_row v edge_words) (λ k. refl) n r e a l m b

  length_stored : (e : ℕ) → e < n → reals_per_edge * n ≤ length r → length_at (with_lengths v edge_words n r) e ≡ len_of (origin_at v edge_words e) (edge_end v edge_words e)
  unfolding length_row
  length_stored e l m = lengths_at e edge_len l m (omega arith)

  unit_stored : (e : ℕ) → e < n → reals_per_edge * n ≤ length r → unit_at (with_lengths v edge_words n r) e ≡ xhat_of (origin_at v edge_words e) (edge_end v edge_words e)
  unfolding length_row
  unit_stored e l m = λ i. record { x = lengths_at e edge_unit l m (omega arith) i; y = lengths_at e (edge_unit + 1) l m (omega arith) i; z = lengths_at e (edge_unit + 2) l m (omega arith) i }

-- along the computed unit vector it is the topology's normal
normal_is : (o b t : Vec3) → unit_of (perpendicular_from o (xhat_of o b) t) ≡ scale_of (perpendicular_of o b t) (one ⊘ altitude_of o b t)
unfolding unit_of perpendicular_of altitude_of
normal_is o b t = refl

module _ (v : List Float) (triangles edge_words : List ℕ) (held : HoldsEdges triangles edge_words) where
  module _ (e : ℕ) (l : e < length (edges triangles)) where
    pub origin_held : origin_at v edge_words e ≡ origin v triangles e
    unfolding origin
    origin_held = ap (vertex_at v) (held.low e l)

    pub end_held : edge_end v edge_words e ≡ end v triangles e
    unfolding end
    end_held = ap (vertex_at v) (held.high e l)

  -- what `lengths` leaves
  pub lengths_held : (r : List Float) → reals_per_edge * length (edges triangles) ≤ length r → HoldsLengths v triangles (with_lengths v edge_words (length (edges triangles)) r)
  unfolding len xhat
  lengths_held r m =
      record {
        length_is = λ e l. length_stored v edge_words (length (edges triangles)) r e l m ∙ (λ i. len_of (origin_held e l i) (end_held e l i));
        unit_is = λ e l. unit_stored v edge_words (length (edges triangles)) r e l m ∙ (λ i. xhat_of (origin_held e l i) (end_held e l i));
      }

module _ (v : List Float) (triangles : List ℕ) (edge_reals : List Float) (long : HoldsLengths v triangles edge_reals) (triangle_words : List ℕ) (sides : HoldsSides triangles triangle_words) where
  normal_held : (h : ℕ) → h < length triangles → normal_of v triangles triangle_words edge_reals h ≡ yhat v triangles h
  unfolding perpendicular_at yhat xhat origin
  normal_held h l =
      let m : tri_edge triangles h < length (edges triangles) = tri_edge_there triangles h l in
      (λ i. unit_of (perpendicular_from (vertex_at v (sym (tri_edge_is triangles h l) i).low) (unit_at edge_reals (sides h l i)) (vertex_at v (side_vertex triangles h 2))))
      ∙ ((λ i. unit_of (perpendicular_from (origin v triangles (tri_edge triangles h)) (long.unit_is (tri_edge triangles h) m i) (vertex_at v (side_vertex triangles h 2))))
      ∙ normal_is (origin v triangles (tri_edge triangles h)) (end v triangles (tri_edge triangles h)) (vertex_at v (side_vertex triangles h 2)))

  -- what `normals` leaves
  pub normals_held : (r : List Float) → reals_per_normal * length triangles ≤ length r → HoldsNormals v triangles (with_normals v triangles triangle_words edge_reals (length triangles) r)
  normals_held r m h l = vectors_at (normal_of v triangles triangle_words edge_reals) (length triangles) r h l m ∙ normal_held h l

-- the normals of a triangle as nine reals, and as three for each side
pub nine : (reals : List Float) (f k : ℕ) → vector_at reals_per_triangle reals f (reals_per_normal * k) ≡ normal_at reals (3 * f + k)
nine reals f k =
    let a : reals_per_triangle * f + reals_per_normal * k ≡ reals_per_normal * (3 * f + k) + 0 = omega arith in
    let b : reals_per_triangle * f + (reals_per_normal * k + 1) ≡ reals_per_normal * (3 * f + k) + 1 = omega arith in
    let c : reals_per_triangle * f + (reals_per_normal * k + 2) ≡ reals_per_normal * (3 * f + k) + 2 = omega arith in
    λ i. record { x = get_or reals (a i) nan; y = get_or reals (b i) nan; z = get_or reals (c i) nan }
