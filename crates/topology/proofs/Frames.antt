-- The frames of a mesh of regular triangles: no edge is shorter and no altitude smaller than document 01 allows, so nothing is divided by zero. Assumes nothing.
use Prim.Native.Nat.{ℕ, ◌+◌, ◌*◌, ◌/◌, ◌%◌, ◌<◌}
use mathlib.Core.Path.{◌≡◌, ap}
use mathlib.Core.Bool.{true, false, and-eq-true_iff}
use mathlib.Core.List.{List}
use mathlib.Core.Logic.{⊎_elim}
use native.Mathlib.Omega.{arith}
use borrow.Author.Tests.{not-false}
use lib.ListN.{length, get_or}
use lib.Ieee.{Float, le}
use Rattle.vec3.specs.declared.Vec3.{Vec3}
use Rattle.job_checks.specs.Edge.{vertex_at, lower, higher, len_of, altitude_of}
use Rattle.job_checks.specs.Refusals.{min_length, min_altitude, degenerate, degenerate_edge, degenerate_in}
use Rattle.job_checks.proofs.Any.{head_none, tail_none}
use Rattle.topology.specs.Checked.{ValidTriangles, RegularTriangles}
use Rattle.topology.specs.Edges.{EndPair, no_edge, between, side_vertex, side_edge, edges, tri_edge}
use Rattle.topology.specs.Frames.{origin, end, len}
use Rattle.topology.proofs.Edges.{FromSide, edge_is_side, tri_edge_is}
use Rattle.topology.proofs.Checked.{three_ways, side_vertex_at, side_inside}

-- what a side that is not degenerate has
module _ (o b third : Vec3) (e : degenerate o b third ≡ false) where
  long : le min_length (len_of o b) ≡ true
  unfolding degenerate
  long = ((and-eq-true_iff (le min_length (len_of o b)) (le min_altitude (altitude_of o b third))).0 (not-false _ e)).0

  tall : le min_altitude (altitude_of o b third) ≡ true
  unfolding degenerate
  tall = ((and-eq-true_iff (le min_length (len_of o b)) (le min_altitude (altitude_of o b third))).0 (not-false _ e)).1

-- a triangle's three sides, as vertices of side h
regular_side : (v : List Float) (triangles : List ℕ) (h : ℕ) → degenerate_in v (get_or triangles (3 * (h / 3)) 0) (get_or triangles (3 * (h / 3) + 1) 0) (get_or triangles (3 * (h / 3) + 2) 0) ≡ false → degenerate_edge v (side_vertex triangles h 0) (side_vertex triangles h 1) (side_vertex triangles h 2) ≡ false
unfolding degenerate_in
regular_side v triangles h e =
    ⊎_elim (λ z. rw (side_vertex_at triangles h 0 (3 * (h / 3)) (omega arith), side_vertex_at triangles h 1 (3 * (h / 3) + 1) (omega arith), side_vertex_at triangles h 2 (3 * (h / 3) + 2) (omega arith)) (head_none _ _ e))
    (⊎_elim (λ z. rw (side_vertex_at triangles h 0 (3 * (h / 3) + 1) (omega arith), side_vertex_at triangles h 1 (3 * (h / 3) + 2) (omega arith), side_vertex_at triangles h 2 (3 * (h / 3)) (omega arith)) (head_none _ _ (tail_none _ _ e)))
    (λ z. rw (side_vertex_at triangles h 0 (3 * (h / 3) + 2) (omega arith), side_vertex_at triangles h 1 (3 * (h / 3)) (omega arith), side_vertex_at triangles h 2 (3 * (h / 3) + 1) (omega arith)) (head_none _ _ (tail_none _ _ (tail_none _ _ e)))))
    (three_ways (h % 3) (omega arith))

-- the frame of a side's edge starts at its lower-numbered vertex
module _ (v : List Float) (triangles : List ℕ) (e h : ℕ) (q : get_or (edges triangles) e no_edge ≡ side_edge triangles h) where
  origin_is : origin v triangles e ≡ vertex_at v (lower (side_vertex triangles h 0) (side_vertex triangles h 1))
  unfolding origin side_edge between
  origin_is = ap (λ (x : EndPair). vertex_at v x.low) q

  end_is : end v triangles e ≡ vertex_at v (higher (side_vertex triangles h 0) (side_vertex triangles h 1))
  unfolding end side_edge between
  end_is = ap (λ (x : EndPair). vertex_at v x.high) q

  module _ (d : degenerate_edge v (side_vertex triangles h 0) (side_vertex triangles h 1) (side_vertex triangles h 2) ≡ false) where
    side_long : le min_length (len v triangles e) ≡ true
    unfolding len degenerate_edge
    side_long = rw (origin_is, end_is) (long _ _ (vertex_at v (side_vertex triangles h 2)) d)

    side_tall : le min_altitude (altitude_of (origin v triangles e) (end v triangles e) (vertex_at v (side_vertex triangles h 2))) ≡ true
    unfolding degenerate_edge
    side_tall = rw (origin_is, end_is) (tall _ _ (vertex_at v (side_vertex triangles h 2)) d)

module _ (v : List Float) (triangles : List ℕ) (n : ℕ) (s : ValidTriangles triangles n) (r : RegularTriangles v triangles) where
  regular_at : (h : ℕ) → h < length triangles → degenerate_edge v (side_vertex triangles h 0) (side_vertex triangles h 1) (side_vertex triangles h 2) ≡ false
  regular_at h l = regular_side v triangles h (r.regular (h / 3) (side_inside triangles n s h l))

  -- every edge is long enough
  pub edge_long : (e : ℕ) → e < length (edges triangles) → le min_length (len v triangles e) ≡ true
  edge_long e l =
      let q : FromSide triangles (length triangles) (get_or (edges triangles) e no_edge) = edge_is_side triangles e l in
      side_long v triangles e q.0 q.1.1 (regular_at q.0 q.1.0)

  -- and what the normal of every side is divided by
  pub altitude_tall : (h : ℕ) → h < length triangles → le min_altitude (altitude_of (origin v triangles (tri_edge triangles h)) (end v triangles (tri_edge triangles h)) (vertex_at v (side_vertex triangles h 2))) ≡ true
  altitude_tall h l = side_tall v triangles (tri_edge triangles h) h (tri_edge_is triangles h l) (regular_at h l)
