-- Laws of the faces of an edge: they are the triangles of the sides that have the edge; where no edge lies in more than two triangles a side's face is one of
-- its edge's two. Assumes nothing.
use Prim.Native.Nat.{ℕ, zero, suc, ◌*◌, ◌/◌, ◌<◌, ◌≤◌}
use mathlib.Core.Path.{◌≡◌, refl, subst}
use mathlib.Core.Bool.{Bool, true, false, cond}
use mathlib.Core.List.{List, [], ◌∷◌, ◌++◌}
use mathlib.Core.Logic.{◌⊎◌, inl, inr}
use native.Mathlib.Nat.{le_of_suc-le-suc, not-suc-le-zero}
use native.Mathlib.Omega.{arith}
use borrow.Author.Tests.{ltb-false}
use lib.ListN.{length, get_or}
use Rattle.job_checks.proofs.Any.{none_below}
use Rattle.topology.specs.Edges.{EndPair, no_edge, no_face, same_edge, side_edge, edges, tri_edge, faces_among, edge_faces, overfull, shared_by_three}
use Rattle.topology.proofs.Find.{same_self}
use Rattle.topology.proofs.Chosen.{Listed, chosen, chosen_listed, listed_chosen, chosen_pairs}
use Rattle.topology.proofs.Edges.{FromSide, edge_is_side, tri_edge_is}

module _ (triangles : List ℕ) (e : EndPair) where
  -- the sides that have the edge
  abbrev sides : ℕ → Bool
  sides h = same_edge (side_edge triangles h) e

  among_chosen : (n : ℕ) → chosen sides n ≡ faces_among triangles e n
  unfolding faces_among chosen
  among_chosen zero = refl
  among_chosen (suc n) = λ i. cond (same_edge (side_edge triangles n) e) (among_chosen n i ++ (n / 3 ∷ [])) (among_chosen n i)

  -- the triangle of each side that has the edge is listed
  pub face_listed : (n h : ℕ) → h < n → same_edge (side_edge triangles h) e ≡ true → Listed (h / 3) (faces_among triangles e n)
  face_listed n h l q = subst (Listed (h / 3)) (among_chosen n) (chosen_listed sides n h l q)

  -- and no other
  abbrev pub OfSide : ℕ → ℕ → Type 0
  OfSide n f = (h : ℕ) × ((h < n) × ((same_edge (side_edge triangles h) e ≡ true) × (f ≡ h / 3)))

  pub listed_face : (n i : ℕ) → i < length (faces_among triangles e n) → OfSide n (get_or (faces_among triangles e n) i no_face)
  listed_face n = subst (λ (fs : List ℕ). (i : ℕ) → i < length fs → OfSide n (get_or fs i no_face)) (among_chosen n) (listed_chosen sides n)

  -- what holds of the triangles of each two sides that have the edge holds of each two of its faces
  pub face_pairs : (R : ℕ → ℕ → Type 0) (n : ℕ) → ((a b : ℕ) → a < b → b < n → same_edge (side_edge triangles a) e ≡ true → same_edge (side_edge triangles b) e ≡ true → R (a / 3) (b / 3)) → (i j : ℕ) → i < j → j < length (faces_among triangles e n) → R (get_or (faces_among triangles e n) i no_face) (get_or (faces_among triangles e n) j no_face)
  face_pairs R n all = subst (λ (fs : List ℕ). (i j : ℕ) → i < j → j < length fs → R (get_or fs i no_face) (get_or fs j no_face)) (among_chosen n) (chosen_pairs sides R n all)

-- the faces of a side's edge hold the side's own
pub side_listed : (triangles : List ℕ) (h : ℕ) → h < length triangles → Listed (h / 3) (edge_faces triangles (tri_edge triangles h))
unfolding edge_faces
side_listed triangles h l =
    rw (tri_edge_is triangles h l) (face_listed triangles (side_edge triangles h) (length triangles) h l (same_self (side_edge triangles h)))

-- every edge has a face, and its faces are triangles of the mesh
module _ (triangles : List ℕ) (e : ℕ) (l : e < length (edges triangles)) where
  pub some_face : 0 < length (edge_faces triangles e)
  unfolding edge_faces
  some_face =
      let r : FromSide triangles (length triangles) (get_or (edges triangles) e no_edge) = edge_is_side triangles e l in
      let q : Listed (r.0 / 3) (faces_among triangles (get_or (edges triangles) e no_edge) (length triangles)) = face_listed triangles (get_or (edges triangles) e no_edge) (length triangles) r.0 r.1.0 (rw r.1.1 (same_self (side_edge triangles r.0))) in
      omega (arith, q.1.0)

  pub face_in_range : (i : ℕ) → i < length (edge_faces triangles e) → 3 * get_or (edge_faces triangles e) i no_face < length triangles
  unfolding edge_faces
  face_in_range i m =
      let r : OfSide triangles (get_or (edges triangles) e no_edge) (length triangles) (get_or (faces_among triangles (get_or (edges triangles) e no_edge) (length triangles)) i no_face) = listed_face triangles (get_or (edges triangles) e no_edge) (length triangles) i m in
      omega (arith, r.1.0, r.1.1.1)

module _ (triangles : List ℕ) (sound : shared_by_three triangles ≡ false) where
  -- two faces at most
  pub two_faces : (e : ℕ) → e < length (edges triangles) → length (edge_faces triangles e) ≤ 2
  unfolding shared_by_three overfull
  two_faces e l = ltb-false 2 (length (edge_faces triangles e)) (none_below _ _ sound e l)

  -- at a place below two stands the first or the second
  pub first_or_second : (f : ℕ) (fs : List ℕ) → length fs ≤ 2 → Listed f fs → (get_or fs 0 no_face ≡ f) ⊎ (get_or fs 1 no_face ≡ f)
  first_or_second f fs l r = place r.0 (omega (arith, r.1.0)) r.1.1
    where
      place : (i : ℕ) → i < 2 → get_or fs i no_face ≡ f → (get_or fs 0 no_face ≡ f) ⊎ (get_or fs 1 no_face ≡ f)
      place zero m q = inl q
      place (suc zero) m q = inr q
      place (suc (suc i)) m q = absurd (not-suc-le-zero (le_of_suc-le-suc (le_of_suc-le-suc m)))
