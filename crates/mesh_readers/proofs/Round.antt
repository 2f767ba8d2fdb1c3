-- The faces round a vertex, as a reader walks over them from where they start to where they end. Assumes nothing.
--     entry_is (entry x is a face of the vertex's list), entry_has (it has the vertex), entry_there (it is a triangle of the mesh)
--     few_round (a vertex has no more faces than there are sides), round_there (each is a triangle of the mesh)
use Prim.Native.Nat.{ℕ, zero, suc, ◌+◌, ◌-◌, ◌*◌, ◌/◌, ◌<◌, ◌≤◌}
use mathlib.Core.Path.{◌≡◌, refl, sym, ap, subst, ◌∙◌}
use mathlib.Core.List.{List, [], ◌∷◌}
use mathlib.Core.Logic.{⊎_elim}
use native.Mathlib.Nat.{le_of_suc-le-suc, not-suc-le-zero}
use native.Mathlib.Omega.{arith}
use borrow.Author.Tests.{eqb-true, eqb-false}
use lib.Dec.{eqb}
use lib.ListN.{length, get_or}
use Rattle.topology.specs.Edges.{no_face, faces_round, vertex_faces}
use Rattle.topology.proofs.Find.{either}
use Rattle.topology.proofs.VertexFaces.{degree_here, round_other, Has, vertex_sound}
use Rattle.vertex_faces.specs.Ranges.{start_of, end_of}
use Rattle.mesh_readers.specs.Held.{HoldsRound}
use Rattle.mesh_readers.specs.Readers.{round_at}

-- an element that is there does not turn on the default
same_default : (l : List ℕ) (i d e : ℕ) → i < length l → get_or l i d ≡ get_or l i e
same_default [] i d e m = absurd (not-suc-le-zero m)
same_default (x ∷ l) zero d e m = refl
same_default (x ∷ l) (suc i) d e m = same_default l i d e (le_of_suc-le-suc m)

module _ (triangles : List ℕ) (k : ℕ) where
  few_among : (n : ℕ) → length (faces_round triangles k n) ≤ n
  unfolding faces_round
  few_among zero = omega arith
  few_among (suc n) =
      ⊎_elim (λ q. omega (arith, degree_here triangles k n (eqb-true (get_or triangles n 0) k q), few_among n))
      (λ q. omega (arith, ap length (round_other triangles k n (eqb-false (get_or triangles n 0) k q)), few_among n))
      (either (eqb (get_or triangles n 0) k))

  pub few_round : length (vertex_faces triangles k) ≤ length triangles
  unfolding vertex_faces
  few_round = few_among (length triangles)

  pub round_there : length triangles ≡ 3 * (length triangles / 3) → (i : ℕ) → i < length (vertex_faces triangles k) → get_or (vertex_faces triangles k) i 0 < length triangles / 3
  round_there whole i l =
      let h = vertex_sound triangles k i l in
      omega (arith, same_default (vertex_faces triangles k) i 0 no_face l, h.1.0, h.1.1.1)

module _ (triangles : List ℕ) (n : ℕ) (vertex_words round : List ℕ) (held : HoldsRound triangles n vertex_words round) (k : ℕ) (l : k < n) where
  module _ (x : ℕ) (from : start_of triangles k ≤ x) (upto : x < end_of triangles k) where
    in_list : x - start_of triangles k < length (vertex_faces triangles k)
    unfolding end_of
    in_list = omega arith

    pub entry_is : round_at round x ≡ get_or (vertex_faces triangles k) (x - start_of triangles k) no_face
    entry_is =
        let z : x ≡ start_of triangles k + (x - start_of triangles k) = omega arith in
        ap (round_at round) z
        ∙ (held.faces_round_held k (x - start_of triangles k) l in_list ∙ same_default (vertex_faces triangles k) (x - start_of triangles k) 0 no_face in_list)

    pub entry_has : Has triangles k (round_at round x)
    entry_has = subst (Has triangles k) (sym entry_is) (vertex_sound triangles k (x - start_of triangles k) in_list)

    pub entry_there : length triangles ≡ 3 * (length triangles / 3) → round_at round x < length triangles / 3
    entry_there whole = let h = entry_has in omega (arith, h.1.0, h.1.1.1)
