-- A mesh of valid triangles: the other laws' premises, and the ends of its edges. Assumes nothing.
use Prim.Native.Nat.{ℕ, zero, suc, ◌+◌, ◌*◌, ◌/◌, ◌%◌, ◌<◌}
use mathlib.Core.Path.{◌≡◌, refl, sym, ap, ◌∙◌}
use mathlib.Core.List.{List}
use mathlib.Core.Logic.{⊎_elim, ◌⊎◌, inl, inr}
use native.Mathlib.Omega.{arith}
use native.Mathlib.Nat.{le_of_suc-le-suc, not-suc-le-zero}
use lib.ListN.{length, get_or}
use Rattle.job_checks.specs.Sound.{Distinct}
use Rattle.topology.specs.Checked.{ValidTriangles}
use Rattle.topology.specs.Edges.{no_edge, between, side_vertex, side_edge, edges, tri_edge}
use Rattle.topology.proofs.Edges.{FromSide, edge_is_side}
use Rattle.topology.proofs.Triangles.{ends, ends_rise, three_edges}

-- both ends of an edge are below what its two vertices are below
ends_below : (a b m : ℕ) → a < m → b < m → (between a b).high < m
ends_below a b m p q = ⊎_elim (λ w. omega arith) (λ w. omega arith) (ends a b)

-- a number below three
pub three_ways : (k : ℕ) → k < 3 → (k ≡ 0) ⊎ ((k ≡ 1) ⊎ (k ≡ 2))
three_ways zero l = inl refl
three_ways (suc zero) l = inr (inl refl)
three_ways (suc (suc zero)) l = inr (inr refl)
three_ways (suc (suc (suc k))) l = absurd (not-suc-le-zero (le_of_suc-le-suc (le_of_suc-le-suc (le_of_suc-le-suc l))))

module _ (triangles : List ℕ) (h : ℕ) where
  pub side_vertex_at : (k i : ℕ) → 3 * (h / 3) + (h % 3 + k) % 3 ≡ i → side_vertex triangles h k ≡ get_or triangles i 0
  unfolding side_vertex
  side_vertex_at k i q = ap (λ (x : ℕ). get_or triangles x 0) q

  -- a side of a triangle with three different vertices joins two of them
  side_vertices_differ : Distinct (get_or triangles (3 * (h / 3)) 0) (get_or triangles (3 * (h / 3) + 1) 0) (get_or triangles (3 * (h / 3) + 2) 0) → side_vertex triangles h 0 ≡ side_vertex triangles h 1 → ⊥
  side_vertices_differ d q =
      ⊎_elim (λ z. d.first_second (sym (side_vertex_at 0 (3 * (h / 3)) (omega arith)) ∙ (q ∙ side_vertex_at 1 (3 * (h / 3) + 1) (omega arith))))
      (⊎_elim (λ z. d.second_third (sym (side_vertex_at 0 (3 * (h / 3) + 1) (omega arith)) ∙ (q ∙ side_vertex_at 1 (3 * (h / 3) + 2) (omega arith))))
      (λ z. d.third_first (sym (side_vertex_at 0 (3 * (h / 3) + 2) (omega arith)) ∙ (q ∙ side_vertex_at 1 (3 * (h / 3)) (omega arith)))))
      (three_ways (h % 3) (omega arith))

module _ (triangles : List ℕ) (n : ℕ) (s : ValidTriangles triangles n) where
  -- a triangle's three numbers lie in the list
  pub inside : (f : ℕ) → f < length triangles / 3 → 3 * f + 2 < length triangles
  inside f l = omega (arith, s.whole)

  -- also of a triangle that has a side in it
  pub side_inside : (h : ℕ) → h < length triangles → h / 3 < length triangles / 3
  side_inside h l = omega (arith, s.whole)

  pub side_vertex_there : (h k : ℕ) → h < length triangles → side_vertex triangles h k < n
  side_vertex_there h k l = rw (side_vertex_at triangles h k (3 * (h / 3) + (h % 3 + k) % 3) refl) (s.there (3 * (h / 3) + (h % 3 + k) % 3) (omega (arith, s.whole)))

  side_rises : (h : ℕ) → h < length triangles → ((side_edge triangles h).low < (side_edge triangles h).high) × ((side_edge triangles h).high < n)
  unfolding side_edge
  side_rises h l = (
    ends_rise (side_vertex triangles h 0) (side_vertex triangles h 1) (side_vertices_differ triangles h (s.distinct (h / 3) (side_inside h l))),
    ends_below (side_vertex triangles h 0) (side_vertex triangles h 1) n (side_vertex_there h 0 l) (side_vertex_there h 1 l),
  )

  -- an edge joins two vertices that are there, the lower one first
  pub edge_ends : (e : ℕ) → e < length (edges triangles) → ((get_or (edges triangles) e no_edge).low < (get_or (edges triangles) e no_edge).high) × ((get_or (edges triangles) e no_edge).high < n)
  edge_ends e l =
      let r : FromSide triangles (length triangles) (get_or (edges triangles) e no_edge) = edge_is_side triangles e l in
      rw r.1.1 (side_rises r.0 r.1.0)

  -- a face has three different edges
  pub face_edges : (f : ℕ) → f < length triangles / 3 → Distinct (tri_edge triangles (3 * f)) (tri_edge triangles (3 * f + 1)) (tri_edge triangles (3 * f + 2))
  face_edges f l = three_edges triangles f (inside f l) (s.distinct f l)
