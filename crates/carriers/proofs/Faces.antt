-- A point's carriers are faces of the mesh: carrier_faces, is_other. Where the buffers hold the mesh, they are read as the Rust has them: face_is, other_is, carrier_face_held.
-- And there are not more than the triangles' sides and two: faces_few. Assumes nothing.
use Prim.Native.Nat.{ℕ, zero, suc, ◌+◌, ◌*◌, ◌/◌, ◌<◌, ◌≤◌}
use mathlib.Core.Path.{◌≡◌, refl, sym, ap, subst, ◌∙◌}
use mathlib.Core.Bool.{Bool, true, false}
use mathlib.Core.List.{List, [], ◌∷◌}
use mathlib.Core.Logic.{⊎_elim}
use native.Mathlib.Omega.{arith}
use borrow.Author.Tests.{eqb-true, eqb-false, ltb-true, ltb-false}
use lib.Dec.{eqb, ltb}
use lib.Ieee.{Float}
use lib.ListN.{length, get_or, get_or-eq_default}
use Rattle.vec3.specs.declared.Vec3.{Vec3}
use Rattle.job_checks.specs.Sound.{ValidTriangles}
use Rattle.topology.specs.Edges.{no_face, edges, tri_edge, edge_faces, face, shared_vertex, faces_round, vertex_faces}
use Rattle.topology.proofs.Find.{either}
use Rattle.topology.proofs.Edges.{tri_edge_there}
use Rattle.topology.proofs.Checked.{inside}
use Rattle.topology.proofs.Sides.{face_there}
use Rattle.topology.proofs.VertexFaces.{round_other, degree_here, vertex_sound}
use Rattle.frames.specs.Held.{HoldsFaces}
use Rattle.mesh_readers.specs.Held.{HoldsMesh, HoldsRound}
use Rattle.carriers.specs.declared.CarrierSimplex.{CarrierSimplex}
use Rattle.carriers.specs.declared.CarrierSimplex.TheVariants.{Face, Edge, Vertex}
use Rattle.carriers.specs.Carrier.{filtered, present, on_side, faces_on, carrier_of, other_carrier, faces_of, InMesh, carrier_at, carrier_face_at}
use Rattle.carriers.proofs.Held.{carrier_held, carrier_there}

module _ (triangles : List ℕ) (n : ℕ) (valid : ValidTriangles triangles n) where
  -- each of a list is a face of the mesh
  abbrev pub Faces : List ℕ → Type 0
  Faces fs = (i : ℕ) → i < length fs → get_or fs i no_face < length triangles / 3

  no_faces : Faces []
  no_faces i l = absurd (omega (arith, l))

  one_more : (f : ℕ) (fs : List ℕ) → f < length triangles / 3 → Faces fs → Faces (f ∷ fs)
  one_more f fs q each zero l = q
  one_more f fs q each (suc i) l = each i (omega (arith, l))

  round_faces : (k : ℕ) → Faces (vertex_faces triangles k)
  round_faces k i l = let r = vertex_sound triangles k i l in omega (arith, r.1.0, r.1.1.1, valid.whole)

  face_below : (e j : ℕ) → e < length (edges triangles) → eqb (face triangles e j) no_face ≡ false → face triangles e j < length triangles / 3
  unfolding face
  face_below e j l some =
      ⊎_elim (λ r. face_there triangles n valid e (get_or (edge_faces triangles e) j no_face) l (j, (ltb-true j (length (edge_faces triangles e)) r, refl)))
      (λ r. absurd (eqb-false (get_or (edge_faces triangles e) j no_face) no_face some (get_or-eq_default (edge_faces triangles e) no_face {n = j} (ltb-false j (length (edge_faces triangles e)) r))))
      (either (ltb j (length (edge_faces triangles e))))

  kept : (f : ℕ) (fs : List ℕ) → (eqb f no_face ≡ false → f < length triangles / 3) → Faces (present fs) → Faces (present (f ∷ fs))
  unfolding present
  kept f fs q each = ⊎_elim (λ z. rw z each) (λ z. rw z (one_more f (present fs) (q z) each)) (either (eqb f no_face))

  none_kept : Faces (present [])
  unfolding present
  none_kept = no_faces

  edge_faces_lem : (e : ℕ) → e < length (edges triangles) → Faces (present (face triangles e 0 ∷ (face triangles e 1 ∷ [])))
  edge_faces_lem e l = kept (face triangles e 0) (face triangles e 1 ∷ []) (face_below e 0 l) (kept (face triangles e 1) [] (face_below e 1 l) none_kept)

  other_there : (g a b : ℕ) → Faces (a ∷ (b ∷ [])) → other_carrier g a b < length triangles / 3
  other_there g a b each = ⊎_elim (λ z. rw z (each 1 (omega arith))) (λ z. rw z (each 0 (omega arith))) (either (eqb a g))

  module _ (f : ℕ) (l : f < length triangles / 3) where
    on_side_lem : (k : ℕ) → k < 3 → Faces (faces_on triangles f (k ∷ []))
    unfolding faces_on
    on_side_lem k q = let last : 3 * f + 2 < length triangles = inside triangles n valid f l in edge_faces_lem (tri_edge triangles (3 * f + k)) (tri_edge_there triangles (3 * f + k) (omega (arith, last)))

    on_two : (i j : ℕ) (on : List ℕ) → Faces (faces_on triangles f (i ∷ (j ∷ on)))
    unfolding faces_on
    on_two i j on = round_faces (shared_vertex triangles (tri_edge triangles (3 * f + i)) (tri_edge triangles (3 * f + j)))

    inside_it : Faces (faces_on triangles f [])
    unfolding faces_on
    inside_it = one_more f [] l no_faces

    on_faces : (a b c : Bool) → Faces (faces_on triangles f (filtered a b c))
    unfolding filtered
    on_faces true true true = on_two 0 1 (2 ∷ [])
    on_faces true true false = on_two 0 1 []
    on_faces true false true = on_two 0 2 []
    on_faces true false false = on_side_lem 0 (omega arith)
    on_faces false true true = on_two 1 2 []
    on_faces false true false = on_side_lem 1 (omega arith)
    on_faces false false true = on_side_lem 2 (omega arith)
    on_faces false false false = inside_it

    module _ (v : List Float) (p : Vec3) where
      pub carrier_faces : Faces (carrier_of v triangles f p)
      unfolding carrier_of
      carrier_faces = on_faces (on_side v triangles f p 0) (on_side v triangles f p 1) (on_side v triangles f p 2)

      -- so is the one that is not g, where there are two
      pub is_other : (g h : ℕ) → ((a b : ℕ) → carrier_of v triangles f p ≡ a ∷ (b ∷ []) → h ≡ other_carrier g a b)
          → (a b : ℕ) → carrier_of v triangles f p ≡ a ∷ (b ∷ []) → (h ≡ other_carrier g a b) × (h < length triangles / 3)
      is_other g h is a b q = (is a b q, subst (λ (x : ℕ). x < length triangles / 3) (sym (is a b q)) (other_there g a b (subst Faces q carrier_faces)))

-- ---- read from the buffers
past_default : (l : List ℕ) (i d e : ℕ) → i < length l → get_or l i d ≡ get_or l i e
past_default [] i d e q = absurd (omega (arith, q))
past_default (x ∷ xs) zero d e q = refl
past_default (x ∷ xs) (suc i) d e q = past_default xs i d e (omega (arith, q))

one_face : (f i : ℕ) → i < 1 → f ≡ get_or (f ∷ []) i no_face
one_face f zero q = refl
one_face f (suc i) q = absurd (omega (arith, q))

module _ (triangles : List ℕ) (n : ℕ) (edge_words vertex_words round : List ℕ) (faces : HoldsFaces triangles edge_words) (held : HoldsRound triangles n vertex_words round) (f : ℕ) where
  pub face_is : (c : CarrierSimplex) → InMesh triangles n f c → (i : ℕ) → i < length (faces_of triangles f c) → carrier_face_at edge_words vertex_words round f c i ≡ get_or (faces_of triangles f c) i no_face
  unfolding InMesh carrier_face_at faces_of
  face_is Face q i l = one_face f i l
  face_is (Edge e) q i l = λ t. get_or (present (faces.first e.0 q t ∷ (faces.second e.0 q t ∷ []))) i no_face
  face_is (Vertex k) q i l =
      ap (λ (s : ℕ). get_or round (s + i) 0) (held.start k.0 q) ∙ (held.faces_round_held k.0 i q l ∙ past_default (vertex_faces triangles k.0) i 0 no_face l)

  -- the one that is not g, of two
  pub other_is : (c : CarrierSimplex) → InMesh triangles n f c → (g a b : ℕ) → faces_of triangles f c ≡ a ∷ (b ∷ []) → other_carrier g (carrier_face_at edge_words vertex_words round f c 0) (carrier_face_at edge_words vertex_words round f c 1) ≡ other_carrier g a b
  other_is c q g a b two =
      let n : length (faces_of triangles f c) ≡ 2 = ap length two in
      λ t. other_carrier g ((face_is c q 0 (omega (arith, n)) ∙ ap (λ (l : List ℕ). get_or l 0 no_face) two) t) ((face_is c q 1 (omega (arith, n)) ∙ ap (λ (l : List ℕ). get_or l 1 no_face) two) t)

pub carrier_face_held : (v : List Float) (triangles : List ℕ) (n : ℕ) (edge_words : List ℕ) (edge_reals : List Float) (triangle_words : List ℕ) (triangleReals : List Float) (vertex_words round : List ℕ)
    → HoldsMesh v triangles n edge_words edge_reals triangle_words triangleReals → HoldsRound triangles n vertex_words round → (f : ℕ) → f < length triangles / 3 → (p : Vec3) (i : ℕ) → i < length (carrier_of v triangles f p)
    → carrier_face_at edge_words vertex_words round f (carrier_at v edge_words edge_reals triangle_words triangleReals f p) i ≡ get_or (carrier_of v triangles f p) i no_face
carrier_face_held v triangles n edge_words edge_reals triangle_words triangleReals vertex_words round m held f l p i q =
    let is : faces_of triangles f (carrier_at v edge_words edge_reals triangle_words triangleReals f p) ≡ carrier_of v triangles f p = carrier_held triangles n m.valid edge_words triangle_words m.ends m.sides f l v edge_reals triangleReals m.lengths m.normals p in
    face_is triangles n edge_words vertex_words round m.faces held f (carrier_at v edge_words edge_reals triangle_words triangleReals f p) (carrier_there triangles n m.valid edge_words triangle_words m.ends m.sides f l v edge_reals triangleReals p) i (omega (arith, q, ap length is))
    ∙ ap (λ (fs : List ℕ). get_or fs i no_face) is

-- ---- how many there can be
round_few : (triangles : List ℕ) (k n : ℕ) → length (faces_round triangles k n) ≤ n
unfolding faces_round
round_few triangles k zero = omega arith
round_few triangles k (suc n) = ⊎_elim
    (λ z. omega (arith, degree_here triangles k n (eqb-true (get_or triangles n 0) k z), round_few triangles k n))
    (λ z. omega (arith, ap length (round_other triangles k n (eqb-false (get_or triangles n 0) k z)), round_few triangles k n))
    (either (eqb (get_or triangles n 0) k))

kept_few : (f : ℕ) (fs : List ℕ) → length (present (f ∷ fs)) ≤ suc (length (present fs))
unfolding present
kept_few f fs = ⊎_elim (λ z. rw z (omega arith)) (λ z. rw z (omega arith)) (either (eqb f no_face))

none_few : length (present []) ≤ 0
unfolding present
none_few = omega arith

pub faces_few : (triangles : List ℕ) (f : ℕ) (c : CarrierSimplex) → length (faces_of triangles f c) ≤ length triangles + 2
unfolding faces_of vertex_faces
faces_few triangles f Face = omega arith
faces_few triangles f (Edge e) = omega (arith, kept_few (face triangles e.0 0) (face triangles e.0 1 ∷ []), kept_few (face triangles e.0 1) [], none_few)
faces_few triangles f (Vertex k) = omega (arith, round_few triangles k.0 (length triangles))
