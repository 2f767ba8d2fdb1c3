-- Laws of the edges of a mesh: where each side of a triangle finds its edge, and what an edge joins. Assumes nothing.
use Prim.Native.Nat.{ℕ, zero, suc, ◌<◌, ◌≤◌}
use mathlib.Core.Path.{◌≡◌, refl, sym, subst}
use mathlib.Core.List.{List}
use mathlib.Core.Logic.{⊎_elim}
use native.Mathlib.Nat.{le_of_suc-le-suc, not-suc-le-zero, eq-or-lt_of_le}
use native.Mathlib.Omega.{arith}
use lib.ListN.{length, get_or}
use Rattle.topology.specs.Edges.{EndPair, no_edge, find, enter, side_edge, edges_of, edges, tri_edge}
use Rattle.topology.proofs.Find.{find_at, enter_longer, enter_has, enter_keeps, enter_grows, each_enter, Numbered, numbered_enter}

module _ (triangles : List ℕ) where
  -- a side among the first n has its edge in their list
  pub side_there : (n h : ℕ) → h < n → find (side_edge triangles h) (edges_of triangles n) < length (edges_of triangles n)
  unfolding edges_of
  side_there zero h l = absurd (not-suc-le-zero l)
  side_there (suc n) h l =
      ⊎_elim (λ q. subst (λ (k : ℕ). find (side_edge triangles k) (enter (edges_of triangles n) (side_edge triangles n)) < length (enter (edges_of triangles n) (side_edge triangles n))) (sym q) (enter_has (edges_of triangles n) (side_edge triangles n)))
      (λ l'. rw (enter_keeps (edges_of triangles n) (side_edge triangles n) (side_edge triangles h) (side_there n h l')) (omega (arith, side_there n h l', enter_grows (edges_of triangles n) (side_edge triangles n))))
      (eq-or-lt_of_le (le_of_suc-le-suc l))

  -- and keeps its number while others are entered
  pub number_kept : (n h : ℕ) → h < n → find (side_edge triangles h) (edges_of triangles (suc n)) ≡ find (side_edge triangles h) (edges_of triangles n)
  unfolding edges_of
  number_kept n h l = enter_keeps (edges_of triangles n) (side_edge triangles n) (side_edge triangles h) (side_there n h l)

  pub numbered : (n : ℕ) → Numbered (edges_of triangles n)
  unfolding edges_of
  numbered zero = λ i l. absurd (not-suc-le-zero l)
  numbered (suc n) = numbered_enter (edges_of triangles n) (side_edge triangles n) (numbered n)

  pub few_edges : (n : ℕ) → length (edges_of triangles n) ≤ n
  unfolding edges_of
  few_edges zero = omega arith
  few_edges (suc n) = ⊎_elim (λ q. omega (arith, few_edges n)) (λ q. omega (arith, few_edges n)) (enter_longer (edges_of triangles n) (side_edge triangles n))

  -- every edge is that of a side
  abbrev pub FromSide : ℕ → EndPair → Type 0
  FromSide n e = (h : ℕ) × ((h < n) × (e ≡ side_edge triangles h))

  pub edge_from_side : (n i : ℕ) → i < length (edges_of triangles n) → FromSide n (get_or (edges_of triangles n) i no_edge)
  unfolding edges_of
  edge_from_side zero i l = absurd (not-suc-le-zero l)
  edge_from_side (suc n) i l =
      each_enter (FromSide (suc n)) (edges_of triangles n) (side_edge triangles n)
      (λ k m. let r : FromSide n (get_or (edges_of triangles n) k no_edge) = edge_from_side n k m in (r.0, (omega (arith, r.1.0), r.1.1)))
      (n, (omega arith, refl)) i l

  -- The whole mesh.
  pub edges_numbered : Numbered (edges triangles)
  unfolding edges
  edges_numbered = numbered (length triangles)

  pub edge_count_held : length (edges triangles) ≤ length triangles
  unfolding edges
  edge_count_held = few_edges (length triangles)

  pub edge_is_side : (e : ℕ) → e < length (edges triangles) → FromSide (length triangles) (get_or (edges triangles) e no_edge)
  unfolding edges
  edge_is_side e l = edge_from_side (length triangles) e l

  module _ (h : ℕ) (l : h < length triangles) where
    pub tri_edge_there : tri_edge triangles h < length (edges triangles)
    unfolding edges tri_edge
    tri_edge_there = side_there (length triangles) h l

    pub tri_edge_is : get_or (edges triangles) (tri_edge triangles h) no_edge ≡ side_edge triangles h
    unfolding edges tri_edge
    tri_edge_is = find_at (side_edge triangles h) (edges_of triangles (length triangles)) (side_there (length triangles) h l)
