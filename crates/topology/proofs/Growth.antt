-- How the faces of the edges grow side by side, and what that says of edges in more than two triangles. Assumes nothing.
use Prim.Native.Nat.{ℕ, zero, suc, ◌/◌, ◌<◌, ◌≤◌}
use mathlib.Core.Path.{◌≡◌, refl, sym, subst}
use mathlib.Core.Bool.{true, false}
use mathlib.Core.List.{List, [], ◌∷◌, ◌++◌}
use mathlib.Core.Logic.{⊎_elim, ◌≢◌}
use native.Mathlib.Nat.{le_of_suc-le-suc, eq-or-lt_of_le}
use native.Mathlib.Omega.{arith}
use borrow.Author.Tests.{lt-ltb, le-ltb}
use lib.ListN.{length, get_or, length-append}
use Rattle.job_checks.proofs.Any.{found, none_all}
use Rattle.topology.specs.Edges.{EndPair, no_edge, no_face, same_edge, find, side_edge, edges_of, edges, tri_edge, faces_among, edge_faces, overfull, shared_by_three}
use Rattle.topology.proofs.Find.{either, same_edge_lem, same_self, Numbered}
use Rattle.topology.proofs.Edges.{FromSide, edge_from_side, side_there, tri_edge_there, tri_edge_is}
use Rattle.topology.proofs.Chosen.{Listed}
use Rattle.topology.proofs.Faces.{OfSide, face_listed, listed_face}

empty : (fs : List ℕ) → (0 < length fs → ⊥) → fs ≡ []
empty [] none = refl
empty (f ∷ fs) none = absurd (none (omega arith))

-- another edge of the list than the one at e's number
pub other_edge : (es : List EndPair) (x : EndPair) (e : ℕ) → Numbered es → e < length es → find x es ≢ e → same_edge x (get_or es e no_edge) ≡ false
other_edge es x e all l ne =
    ⊎_elim (λ q. absurd (ne (subst (λ (y : EndPair). find y es ≡ e) (sym (same_edge_lem x (get_or es e no_edge) q)) (all e l)))) (λ q. q) (either (same_edge x (get_or es e no_edge)))

module _ (triangles : List ℕ) where
  -- one more side: it has the edge, or not
  pub faces_more : (h : ℕ) → faces_among triangles (side_edge triangles h) (suc h) ≡ faces_among triangles (side_edge triangles h) h ++ (h / 3 ∷ [])
  unfolding faces_among
  faces_more h = rw (same_self (side_edge triangles h)) refl

  pub faces_same : (h : ℕ) (e : EndPair) → same_edge (side_edge triangles h) e ≡ false → faces_among triangles e (suc h) ≡ faces_among triangles e h
  unfolding faces_among
  faces_same h e q = rw q refl

  pub faces_grow : (e : EndPair) (n m : ℕ) → n ≤ m → length (faces_among triangles e n) ≤ length (faces_among triangles e m)
  unfolding faces_among
  faces_grow e n zero l = let q : n ≡ 0 = omega arith in rw q (omega arith)
  faces_grow e n (suc m) l =
      ⊎_elim (λ q. rw q (omega arith))
      (λ (k : suc n ≤ suc m). ⊎_elim (λ s. rw s (omega (arith, length-append (faces_among triangles e m) (m / 3 ∷ []), faces_grow e n m (le_of_suc-le-suc k)))) (λ s. rw s (faces_grow e n m (le_of_suc-le-suc k))) (either (same_edge (side_edge triangles m) e)))
      (eq-or-lt_of_le l)

  -- an edge that is not among the first n sides has no face there, one that is has some
  pub faces_none : (n : ℕ) (x : EndPair) → length (edges_of triangles n) ≤ find x (edges_of triangles n) → faces_among triangles x n ≡ []
  faces_none n x fresh =
      empty (faces_among triangles x n) (λ l.
      let r : OfSide triangles x n (get_or (faces_among triangles x n) 0 no_face) = listed_face triangles x n 0 l in
      let q : side_edge triangles r.0 ≡ x = same_edge_lem (side_edge triangles r.0) x r.1.1.0 in
      let k : find x (edges_of triangles n) < length (edges_of triangles n) = subst (λ (y : EndPair). find y (edges_of triangles n) < length (edges_of triangles n)) q (side_there triangles n r.0 r.1.0) in
      omega arith)

  pub faces_some : (n e : ℕ) → e < length (edges_of triangles n) → 0 < length (faces_among triangles (get_or (edges_of triangles n) e no_edge) n)
  faces_some n e l =
      let r : FromSide triangles n (get_or (edges_of triangles n) e no_edge) = edge_from_side triangles n e l in
      let q : Listed (r.0 / 3) (faces_among triangles (get_or (edges_of triangles n) e no_edge) n) = face_listed triangles (get_or (edges_of triangles n) e no_edge) n r.0 r.1.0 (rw r.1.1 (same_self (side_edge triangles r.0))) in
      omega (arith, q.1.0)

  -- a third face of a side's edge, among whatever sides
  pub third_face : (h n : ℕ) → h < length triangles → n ≤ length triangles → 2 < length (faces_among triangles (side_edge triangles h) n) → shared_by_three triangles ≡ true
  unfolding shared_by_three overfull edge_faces
  third_face h n l k m =
      let g : length (faces_among triangles (side_edge triangles h) n) ≤ length (faces_among triangles (side_edge triangles h) (length triangles)) = faces_grow (side_edge triangles h) n (length triangles) k in
      found (overfull triangles) (tri_edge triangles h) (length (edges triangles)) (tri_edge_there triangles h l)
      (lt-ltb 2 (length (edge_faces triangles (tri_edge triangles h))) (rw (tri_edge_is triangles h l) (omega arith)))

  -- two faces of each edge at most
  pub no_third_face : ((e : ℕ) → e < length (edges triangles) → length (edge_faces triangles e) ≤ 2) → shared_by_three triangles ≡ false
  unfolding shared_by_three overfull
  no_third_face two = none_all (overfull triangles) (length (edges triangles)) (λ e l. le-ltb 2 (length (edge_faces triangles e)) (two e l))
