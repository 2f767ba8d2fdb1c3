-- Laws of `other` for a mesh of valid triangles that has no edge in more than two of them: the face beyond an edge, and back. Assumes nothing.
use Prim.Native.Nat.{ℕ, ◌/◌, ◌<◌, ◌≤◌}
use mathlib.Core.Path.{◌≡◌, refl, sym, ap, ◌∙◌}
use mathlib.Core.Bool.{true, false}
use mathlib.Core.List.{List}
use mathlib.Core.Logic.{⊎_elim, ◌⊎◌, inl, inr}
use native.Mathlib.Nat.{eq-or-lt_of_le}
use native.Mathlib.Omega.{arith}
use borrow.Author.Tests.{eq-eqb, ne_eqb, ltb-true, ltb-false}
use lib.Dec.{ltb, eqb}
use lib.ListN.{length, get_or, get_or-eq_default}
use Rattle.topology.specs.Checked.{ValidTriangles}
use Rattle.topology.specs.Edges.{EndPair, no_edge, no_face, find, same_edge, side_edge, edges, tri_edge, edge_faces, shared_by_three, face, other}
use Rattle.topology.proofs.Find.{either, same_edge_lem}
use Rattle.topology.proofs.Chosen.{Listed}
use Rattle.topology.proofs.Faces.{face_pairs, some_face, face_in_range, two_faces, first_or_second}
use Rattle.topology.proofs.Triangles.{sides_apart}
use Rattle.topology.proofs.Checked.{face_edges, side_inside}

-- two sides that have one edge find it at one place
one_edge : (triangles : List ℕ) (e : EndPair) (a b : ℕ) → same_edge (side_edge triangles a) e ≡ true → same_edge (side_edge triangles b) e ≡ true → tri_edge triangles a ≡ tri_edge triangles b
unfolding tri_edge
one_edge triangles e a b p q = ap (λ (x : EndPair). find x (edges triangles)) (same_edge_lem (side_edge triangles a) e p ∙ sym (same_edge_lem (side_edge triangles b) e q))

-- past the first face
pub other_first : (triangles : List ℕ) (e : ℕ) → other triangles e (face triangles e 0) ≡ face triangles e 1
unfolding other
other_first triangles e = rw (eq-eqb (face triangles e 0) (face triangles e 0) refl)

module _ (triangles : List ℕ) (count : ℕ) (s : ValidTriangles triangles count) (e : ℕ) (l : e < length (edges triangles)) where
  -- the faces of an edge are different triangles
  sides_of_two : (x y : ℕ) → x < y → y < length triangles → same_edge (side_edge triangles x) (get_or (edges triangles) e no_edge) ≡ true → same_edge (side_edge triangles y) (get_or (edges triangles) e no_edge) ≡ true → x / 3 < y / 3
  sides_of_two x y m n p q =
      ⊎_elim
      (λ r. absurd (sides_apart (tri_edge triangles) (y / 3) (face_edges triangles count s (y / 3) (side_inside triangles count s y n)) x y m r refl (one_edge triangles (get_or (edges triangles) e no_edge) x y p q)))
      (λ r. r)
      (eq-or-lt_of_le (let g : x / 3 ≤ y / 3 = omega arith in g))

  pub faces_rise : (i n : ℕ) → i < n → n < length (edge_faces triangles e) → get_or (edge_faces triangles e) i no_face < get_or (edge_faces triangles e) n no_face
  unfolding edge_faces
  faces_rise = face_pairs triangles (get_or (edges triangles) e no_edge) (λ x y. x < y) (length triangles) sides_of_two

  in_mesh : (i : ℕ) → i < length (edge_faces triangles e) → get_or (edge_faces triangles e) i no_face < length triangles / 3
  in_mesh i m = omega (arith, face_in_range triangles e l i m, s.whole)

  -- a face of an edge is a triangle of the mesh, or there is none
  pub face_or_none : (i : ℕ) → (face triangles e i < length triangles / 3) ⊎ (face triangles e i ≡ no_face)
  unfolding face
  face_or_none i =
      ⊎_elim (λ q. inl (in_mesh i (ltb-true i (length (edge_faces triangles e)) q)))
      (λ q. inr (get_or-eq_default (edge_faces triangles e) no_face {n = i} (ltb-false i (length (edge_faces triangles e)) q)))
      (either (ltb i (length (edge_faces triangles e))))

  pub two_differ : face triangles e 0 ≡ face triangles e 1 → ⊥
  unfolding face
  two_differ r =
      ⊎_elim (λ q. omega (arith, faces_rise 0 1 (omega arith) (ltb-true 1 (length (edge_faces triangles e)) q)))
      (λ q. omega (arith, get_or-eq_default (edge_faces triangles e) no_face {n = 1} (ltb-false 1 (length (edge_faces triangles e)) q), in_mesh 0 (some_face triangles e l), s.few))
      (either (ltb 1 (length (edge_faces triangles e))))

  -- past the second
  pub other_second : other triangles e (face triangles e 1) ≡ face triangles e 0
  unfolding other
  other_second = rw (ne_eqb (face triangles e 0) (face triangles e 1) two_differ)

  -- a face that has the edge, or none
  face_listed_or_none : (i : ℕ) → Listed (face triangles e i) (edge_faces triangles e) ⊎ (face triangles e i ≡ no_face)
  unfolding face
  face_listed_or_none i =
      ⊎_elim (λ q. inl (i, (ltb-true i (length (edge_faces triangles e)) q, refl)))
      (λ q. inr (get_or-eq_default (edge_faces triangles e) no_face {n = i} (ltb-false i (length (edge_faces triangles e)) q)))
      (either (ltb i (length (edge_faces triangles e))))

  pub other_listed : (f : ℕ) → Listed (other triangles e f) (edge_faces triangles e) ⊎ (other triangles e f ≡ no_face)
  unfolding other
  other_listed f = ⊎_elim (λ q. rw q (face_listed_or_none 1)) (λ q. rw q (face_listed_or_none 0)) (either (eqb (face triangles e 0) f))

  -- A face of the edge is one of two, and the answer is the one that it is not.
  module _ (no_third : shared_by_three triangles ≡ false) (f : ℕ) (of : Listed f (edge_faces triangles e)) where
    one_of_two : (face triangles e 0 ≡ f) ⊎ (face triangles e 1 ≡ f)
    unfolding face
    one_of_two = first_or_second triangles no_third f (edge_faces triangles e) (two_faces triangles no_third e l) of

    pub other_is : ((f ≡ face triangles e 0) × (other triangles e f ≡ face triangles e 1)) ⊎ ((f ≡ face triangles e 1) × (other triangles e f ≡ face triangles e 0))
    other_is =
        ⊎_elim (λ q. inl (sym q, ap (other triangles e) (sym q) ∙ other_first triangles e))
        (λ q. inr (sym q, ap (other triangles e) (sym q) ∙ other_second))
        one_of_two
