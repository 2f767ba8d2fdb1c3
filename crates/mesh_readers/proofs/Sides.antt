-- The side of a face towards another face: two faces of one edge find it, or another edge that both have. Assumes nothing.
--     side_to_found (the answer is a side, and its edge has the other face), side_to_held (where the buffers hold the topology)
use Prim.Native.Nat.{ℕ, ◌+◌, ◌*◌, ◌/◌, ◌<◌}
use mathlib.Core.Path.{◌≡◌, refl, sym, ap, subst, ◌∙◌}
use mathlib.Core.Bool.{Bool, true, false, cond, ◌||◌, true≢false, or-true}
use mathlib.Core.List.{List}
use mathlib.Core.Logic.{⊎_elim, ◌⊎◌, inl, inr}
use native.Mathlib.Omega.{arith}
use borrow.Author.Tests.{eq-eqb, eqb-true, ltb-true, ltb-false}
use lib.Dec.{eqb, ltb}
use lib.ListN.{length, get_or, get_or-eq_default}
use Rattle.job_checks.specs.Sound.{ValidTriangles}
use Rattle.topology.specs.Edges.{no_face, edges, tri_edge, edge_faces, face, local, shared_by_three}
use Rattle.topology.proofs.Find.{either}
use Rattle.topology.proofs.Chosen.{Listed}
use Rattle.topology.proofs.Edges.{tri_edge_there}
use Rattle.topology.proofs.Faces.{two_faces, first_or_second}
use Rattle.topology.proofs.Checked.{three_ways}
use Rattle.topology.proofs.Sides.{face_there, face_has_side, local_below}
use Rattle.frames.specs.Held.{HoldsFaces, HoldsSides}
use Rattle.mesh_readers.specs.Readers.{side_in, face_of, side_to_at}
use Rattle.mesh_readers.specs.Sides.{has_face, side_to}
use Rattle.mesh_readers.proofs.Held.{side_held, side_first}

-- the first of three that holds, where one does
abbrev place : Bool → Bool → Bool → ℕ
place a b c = cond a 0 (cond b 1 (cond c 2 3))

first_of : (a b c : Bool) (k : ℕ) → k < 3 → (k ≡ 0 → a ≡ true) → (k ≡ 1 → b ≡ true) → (k ≡ 2 → c ≡ true)
    → ((place a b c ≡ 0) × (a ≡ true)) ⊎ (((place a b c ≡ 1) × (b ≡ true)) ⊎ ((place a b c ≡ 2) × (c ≡ true)))
first_of true b c k l x y z = inl (refl, refl)
first_of false true c k l x y z = inr (inl (refl, refl))
first_of false false true k l x y z = inr (inr (refl, refl))
first_of false false false k l x y z = absurd (⊎_elim (λ q. true≢false (sym (x q))) (⊎_elim (λ q. true≢false (sym (y q))) (λ q. true≢false (sym (z q)))) (three_ways k l))

module _ (triangles : List ℕ) (n : ℕ) (s : ValidTriangles triangles n) where
  -- what is a triangle of the mesh and a face of an edge is listed there
  face_is_listed : (e i h : ℕ) → h < length triangles / 3 → face triangles e i ≡ h → Listed h (edge_faces triangles e)
  unfolding face
  face_is_listed e i h l q =
      ⊎_elim (λ r. (i, (ltb-true i (length (edge_faces triangles e)) r, q)))
      (λ r. absurd (let z : ⊥ = omega (arith, get_or-eq_default (edge_faces triangles e) no_face {n = i} (ltb-false i (length (edge_faces triangles e)) r), s.few) in z))
      (either (ltb i (length (edge_faces triangles e))))

  either_true : (a b : Bool) → (a || b) ≡ true → (a ≡ true) ⊎ (b ≡ true)
  either_true true b q = inl refl
  either_true false b q = inr q

  has_listed : (e h : ℕ) → h < length triangles / 3 → has_face triangles e h ≡ true → Listed h (edge_faces triangles e)
  has_listed e h l q =
      ⊎_elim (λ r. face_is_listed e 0 h l (eqb-true (face triangles e 0) h r)) (λ r. face_is_listed e 1 h l (eqb-true (face triangles e 1) h r))
      (either_true (eqb (face triangles e 0) h) (eqb (face triangles e 1) h) q)

  module _ (no_third : shared_by_three triangles ≡ false) where
    listed_has : (e h : ℕ) → e < length (edges triangles) → Listed h (edge_faces triangles e) → has_face triangles e h ≡ true
    unfolding face
    listed_has e h l of =
        ⊎_elim (λ q. rw (eq-eqb (get_or (edge_faces triangles e) 0 no_face) h q) refl)
        (λ q. rw (eq-eqb (get_or (edge_faces triangles e) 1 no_face) h q) (or-true (eqb (get_or (edge_faces triangles e) 0 no_face) h)))
        (first_or_second triangles no_third h (edge_faces triangles e) (two_faces triangles no_third e l) of)

    module _ (e f h : ℕ) (l : e < length (edges triangles)) (of : Listed f (edge_faces triangles e)) (also : Listed h (edge_faces triangles e)) where
      at_side : (k : ℕ) → local triangles f e ≡ k → has_face triangles (tri_edge triangles (3 * f + k)) h ≡ true
      at_side k q = subst (λ (x : ℕ). has_face triangles x h ≡ true) (sym (face_has_side triangles n s e f l of) ∙ ap (λ (j : ℕ). tri_edge triangles (3 * f + j)) q) (listed_has e h l also)

      at_first : local triangles f e ≡ 0 → has_face triangles (tri_edge triangles (3 * f)) h ≡ true
      at_first q = let z : 3 * f + 0 ≡ 3 * f = omega arith in subst (λ (x : ℕ). has_face triangles (tri_edge triangles x) h ≡ true) z (at_side 0 q)

      pub side_to_found : (side_to triangles f h < 3) × Listed h (edge_faces triangles (tri_edge triangles (3 * f + side_to triangles f h)))
      unfolding side_to
      side_to_found =
          let m : h < length triangles / 3 = face_there triangles n s e h l also in
          let z : 3 * f + 0 ≡ 3 * f = omega arith in
          ⊎_elim
          (λ w. rw w.0 (omega arith, subst (λ (x : ℕ). Listed h (edge_faces triangles (tri_edge triangles x))) (sym z) (has_listed (tri_edge triangles (3 * f)) h m w.1)))
          (⊎_elim (λ w. rw w.0 (omega arith, has_listed (tri_edge triangles (3 * f + 1)) h m w.1)) (λ w. rw w.0 (omega arith, has_listed (tri_edge triangles (3 * f + 2)) h m w.1)))
          (first_of (has_face triangles (tri_edge triangles (3 * f)) h) (has_face triangles (tri_edge triangles (3 * f + 1)) h) (has_face triangles (tri_edge triangles (3 * f + 2)) h)
          (local triangles f e) (local_below triangles f e) at_first (at_side 1) (at_side 2))

module _ (triangles edge_words triangle_words : List ℕ) (faces : HoldsFaces triangles edge_words) (sides : HoldsSides triangles triangle_words) (f h : ℕ) (inside : 3 * f + 2 < length triangles) where
  has_held : (x e : ℕ) → x ≡ e → e < length (edges triangles) → face_of edge_words x h ≡ has_face triangles e h
  has_held x e q l = (λ i. face_of edge_words (q i) h) ∙ (λ i. eqb (faces.first e l i) h || eqb (faces.second e l i) h)

  pub side_to_held : side_to_at edge_words triangle_words f h ≡ side_to triangles f h
  unfolding side_to_at side_to
  side_to_held =
      let a = has_held (side_in triangle_words f 0) (tri_edge triangles (3 * f)) (side_first triangles triangle_words sides f inside) (tri_edge_there triangles (3 * f) (omega arith)) in
      let b = has_held (side_in triangle_words f 1) (tri_edge triangles (3 * f + 1)) (side_held triangles triangle_words sides f inside 1 (omega arith)) (tri_edge_there triangles (3 * f + 1) (omega arith)) in
      let c = has_held (side_in triangle_words f 2) (tri_edge triangles (3 * f + 2)) (side_held triangles triangle_words sides f inside 2 (omega arith)) (tri_edge_there triangles (3 * f + 2) inside) in
      λ i. cond (a i) 0 (cond (b i) 1 (cond (c i) 2 3))
