-- The answers as the code computes them. Assumes nothing.
use Prim.Native.Nat.{ℕ, zero, suc, ◌+◌, ◌*◌}
use mathlib.Core.Path.{◌≡◌, refl, sym, ap, ◌∙◌}
use mathlib.Core.Bool.{Bool, true, false, cond}
use mathlib.Core.List.{List, [], ◌∷◌}
use mathlib.Core.Logic.{⊎_elim}
use native.Mathlib.Omega.{arith}
use borrow.Author.Tests.{eq-eqb, ne_eqb, eqb-true}
use lib.Dec.{eqb}
use lib.Ieee.{Float}
use lib.ListN.{length, get_or}
use Rattle.layout.specs.Layout.{vertices_per_triangle, words_per_round}
use Rattle.vec3.specs.declared.Vec3.{Vec3}
use Rattle.vec3.specs.Vec.{sub_of, norm_of}
use Rattle.float64.specs.TotalOrder.{total_less}
use Rattle.buffers.specs.declared.EdgeId.{EdgeId}
use Rattle.buffers.specs.declared.FaceId.{FaceId}
use Rattle.buffers.specs.declared.VertexId.{VertexId}
use Rattle.job_checks.specs.Edge.{vertex_at}
use Rattle.topology.specs.Edges.{no_face}
use Rattle.topology.proofs.Find.{either}
use Rattle.frames.specs.Stored.{length_at}
use Rattle.mesh_readers.specs.declared.FrameCoords.{FrameCoords}
use Rattle.mesh_readers.specs.Readers.{side_in, coords_at, shared_at, round_at}
use Rattle.source_windows.specs.Wedge.{lies_on}
use Rattle.carriers.specs.declared.CarrierSimplex.{CarrierSimplex}
use Rattle.carriers.specs.declared.CarrierSimplex.TheVariants.{Vertex}
use Rattle.carriers.specs.Carrier.{filtered, present, on_side_at, simplex_of, carrier_at, other_carrier}
use Rattle.carriers.specs.Nearest.{distance_to, nearer_of, nearest_at}

-- ---- what a point lies on
pub on_side_is : (v : List Float) (ew : List ℕ) (er : List Float) (tw : List ℕ) (tr : List Float) (f k : ℕ) (p : Vec3) (e : EdgeId) (q : FrameCoords) (l : Float) (r : Bool)
    → e ≡ record { 0 = side_in tw f k } → q ≡ coords_at v ew er tw tr e.0 f p → l ≡ length_at er e.0 → r ≡ lies_on q.y l → r ≡ on_side_at v ew er tw tr f p k
unfolding on_side_at
on_side_is v ew er tw tr f k p e q l r a b c d =
    let B : q ≡ coords_at v ew er tw tr (side_in tw f k) f p = b ∙ (λ i. coords_at v ew er tw tr (a i).0 f p) in
    let C : l ≡ length_at er (side_in tw f k) = c ∙ (λ i. length_at er (a i).0) in
    d ∙ (λ i. lies_on (B i).y (C i))

pub at_vertex_is : (ew : List ℕ) (x y : ℕ) (e o : EdgeId) (k : VertexId) → e ≡ record { 0 = x } → o ≡ record { 0 = y } → k ≡ record { 0 = shared_at ew e.0 o.0 }
    → ◌≡◌ {A = CarrierSimplex} (Vertex k) (Vertex (record { 0 = shared_at ew x y }))
at_vertex_is ew x y e o k a b c =
    let z : k ≡ record { 0 = shared_at ew x y } = c ∙ (λ t. record { 0 = shared_at ew (a t).0 (b t).0 }) in
    λ t. Vertex (z t)

pub carrier_is : (v : List Float) (ew : List ℕ) (er : List Float) (tw : List ℕ) (tr : List Float) (f : ℕ) (p : Vec3) (a b c : Bool) (r : CarrierSimplex)
    → a ≡ on_side_at v ew er tw tr f p 0 → b ≡ on_side_at v ew er tw tr f p 1 → c ≡ on_side_at v ew er tw tr f p 2 → r ≡ simplex_of ew tw f (filtered a b c) → r ≡ carrier_at v ew er tw tr f p
unfolding carrier_at
carrier_is v ew er tw tr f p a b c r x y z w = w ∙ (λ i. simplex_of ew tw f (filtered (x i) (y i) (z i)))

-- ---- the faces of an edge, where n stands for none
module _ (n : ℕ) (none : n ≡ no_face) (a b x y : ℕ) (p : a ≡ x) (q : b ≡ y) where
  pub faces_none : a ≡ n → b ≡ n → 0 ≡ length (present (x ∷ (y ∷ [])))
  unfolding present
  faces_none r s = rw (eq-eqb x no_face (sym p ∙ r ∙ none), eq-eqb y no_face (sym q ∙ s ∙ none)) refl

  pub faces_second : a ≡ n → (b ≡ n → ⊥) → 1 ≡ length (present (x ∷ (y ∷ [])))
  unfolding present
  faces_second r s = rw (eq-eqb x no_face (sym p ∙ r ∙ none), ne_eqb y no_face (λ t. s (q ∙ t ∙ sym none))) refl

  pub faces_first : (a ≡ n → ⊥) → b ≡ n → 1 ≡ length (present (x ∷ (y ∷ [])))
  unfolding present
  faces_first r s = rw (ne_eqb x no_face (λ t. r (p ∙ t ∙ sym none)), eq-eqb y no_face (sym q ∙ s ∙ none)) refl

  pub faces_both : (a ≡ n → ⊥) → (b ≡ n → ⊥) → 2 ≡ length (present (x ∷ (y ∷ [])))
  unfolding present
  faces_both r s = rw (ne_eqb x no_face (λ t. r (p ∙ t ∙ sym none)), ne_eqb y no_face (λ t. s (q ∙ t ∙ sym none))) refl

-- ---- the i-th of them
none_read : (i : ℕ) → get_or (no_face ∷ []) i no_face ≡ no_face
none_read zero = refl
none_read (suc i) = refl

-- a single face is read alike where it is there and where it is none
one_read : (y i : ℕ) → get_or (present (y ∷ [])) i no_face ≡ get_or (y ∷ []) i no_face
unfolding present
one_read y i = ⊎_elim (λ z. rw z (sym (ap (λ (x : ℕ). get_or (x ∷ []) i no_face) (eqb-true y no_face z) ∙ none_read i))) (λ z. rw z refl) (either (eqb y no_face))

module _ (n : FaceId) (none : n ≡ record { 0 = no_face }) (a b x y i : ℕ) (p : a ≡ x) (q : b ≡ y) where
  abbrev read : ℕ
  read = get_or (present (x ∷ (y ∷ []))) i no_face

  first_none : a ≡ n.0 → read ≡ get_or (y ∷ []) i no_face
  unfolding present
  first_none r = rw (eq-eqb x no_face (sym p ∙ r ∙ ap (λ (f : FaceId). f.0) none)) (one_read y i)

  first_some : (a ≡ n.0 → ⊥) → read ≡ get_or (x ∷ present (y ∷ [])) i no_face
  unfolding present
  first_some r = rw (ne_eqb x no_face (λ t. r (p ∙ t ∙ sym (ap (λ (f : FaceId). f.0) none)))) refl

  pub face_second : a ≡ n.0 → i ≡ 0 → ◌≡◌ {A = FaceId} (record { 0 = b }) (record { 0 = read })
  face_second r z = let s : b ≡ read = q ∙ sym (first_none r ∙ ap (λ (j : ℕ). get_or (y ∷ []) j no_face) z) in λ t. record { 0 = s t }

  pub face_past_second : a ≡ n.0 → (i ≡ 0 → ⊥) → n ≡ record { 0 = read }
  face_past_second r z = go i refl where
    go : (j : ℕ) → i ≡ j → n ≡ record { 0 = read }
    go zero w = absurd (z w)
    go (suc j) w = none ∙ (λ t. record { 0 = sym (first_none r ∙ ap (λ (k : ℕ). get_or (y ∷ []) k no_face) w) t })

  pub face_first : (a ≡ n.0 → ⊥) → i ≡ 0 → ◌≡◌ {A = FaceId} (record { 0 = a }) (record { 0 = read })
  face_first r z = let s : a ≡ read = p ∙ sym (first_some r ∙ ap (λ (j : ℕ). get_or (x ∷ present (y ∷ [])) j no_face) z) in λ t. record { 0 = s t }

  pub face_behind : (a ≡ n.0 → ⊥) → i ≡ 1 → ◌≡◌ {A = FaceId} (record { 0 = b }) (record { 0 = read })
  face_behind r z = let s : b ≡ read = q ∙ sym (first_some r ∙ (ap (λ (j : ℕ). get_or (x ∷ present (y ∷ [])) j no_face) z ∙ one_read y 0)) in λ t. record { 0 = s t }

  pub face_past : (a ≡ n.0 → ⊥) → (i ≡ 0 → ⊥) → (i ≡ 1 → ⊥) → n ≡ record { 0 = read }
  face_past r z w = go i refl where
    go : (j : ℕ) → i ≡ j → n ≡ record { 0 = read }
    go zero u = absurd (z u)
    go (suc zero) u = absurd (w u)
    go (suc (suc j)) u = none ∙ (λ t. record { 0 = sym (first_some r ∙ (ap (λ (k : ℕ). get_or (x ∷ present (y ∷ [])) k no_face) u ∙ one_read y (suc j))) t })

pub round_face_is : (round : List ℕ) (start s i g : ℕ) → start ≡ s → g ≡ get_or round (words_per_round * start + i) 0 → ◌≡◌ {A = FaceId} (record { 0 = g }) (record { 0 = round_at round (s + i) })
round_face_is round start s i g a b =
    let z : words_per_round * start + i ≡ s + i = omega (arith, a) in
    let w : g ≡ round_at round (s + i) = b ∙ ap (λ (k : ℕ). get_or round k 0) z in
    λ t. record { 0 = w t }

module _ (g a b : ℕ) (first : FaceId) (is : first ≡ record { 0 = a }) where
  pub other_second : first.0 ≡ g → (second : FaceId) → second ≡ record { 0 = b } → second ≡ record { 0 = other_carrier g a b }
  other_second z second is-second = is-second ∙ (λ t. record { 0 = cond (sym (eq-eqb a g (sym (ap (λ (f : FaceId). f.0) is) ∙ z)) t) b a })

  pub other_first : (first.0 ≡ g → ⊥) → first ≡ record { 0 = other_carrier g a b }
  other_first z = is ∙ (λ t. record { 0 = cond (sym (ne_eqb a g (λ w. z (ap (λ (f : FaceId). f.0) is ∙ w))) t) b a })

-- ---- the nearest vertex
module _ (v : List Float) (p : Vec3) (a b : VertexId) (A B S T : Vec3) (x y : Float) (t : Bool)
    (a1 : A ≡ vertex_at v a.0) (a2 : S ≡ sub_of A p) (a3 : x ≡ norm_of S) (b1 : B ≡ vertex_at v b.0) (b2 : T ≡ sub_of B p) (b3 : y ≡ norm_of T) (g : t ≡ total_less y x) where
  first_is : x ≡ distance_to v p a.0
  first_is = a3 ∙ ap norm_of (a2 ∙ (λ i. sub_of (a1 i) p))

  second_is : y ≡ distance_to v p b.0
  second_is = b3 ∙ ap norm_of (b2 ∙ (λ i. sub_of (b1 i) p))

  test_is : total_less (distance_to v p b.0) (distance_to v p a.0) ≡ t
  test_is = sym (g ∙ (λ i. total_less (second_is i) (first_is i)))

  pub nearer_second : t ≡ true → b ≡ record { 0 = nearer_of v p a.0 b.0 }
  unfolding nearer_of
  nearer_second h = λ i. record { 0 = cond (sym (test_is ∙ h) i) b.0 a.0 }

  pub nearer_first : t ≡ false → a ≡ record { 0 = nearer_of v p a.0 b.0 }
  unfolding nearer_of
  nearer_first h = λ i. record { 0 = cond (sym (test_is ∙ h) i) b.0 a.0 }

pub nearest_is : (v : List Float) (triangles : List ℕ) (f : ℕ) (p : Vec3) (a b c m r : VertexId)
    → a ≡ record { 0 = get_or triangles (vertices_per_triangle * f + 0) 0 } → b ≡ record { 0 = get_or triangles (vertices_per_triangle * f + 1) 0 } → c ≡ record { 0 = get_or triangles (vertices_per_triangle * f + 2) 0 }
    → m ≡ record { 0 = nearer_of v p a.0 b.0 } → r ≡ record { 0 = nearer_of v p m.0 c.0 } → r ≡ record { 0 = nearest_at v triangles f p }
unfolding nearest_at
nearest_is v triangles f p a b c m r x y z w u =
    let M : m ≡ record { 0 = nearer_of v p (get_or triangles (vertices_per_triangle * f + 0) 0) (get_or triangles (vertices_per_triangle * f + 1) 0) } = w ∙ (λ i. record { 0 = nearer_of v p (x i).0 (y i).0 }) in
    u ∙ (λ i. record { 0 = nearer_of v p (M i).0 (z i).0 })
