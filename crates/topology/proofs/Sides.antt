-- Laws of a mesh of valid triangles, for those who walk from face to face and round a vertex. Assumes nothing.
--     edges of a face     face_has_side (a face of an edge has it as a side, the one that `local` names), local_of_side, edge_is (its two vertices), face_there
--     third vertex        third_is (the vertex opposite to the side), third_there (it is in range), third_off (it is not on the edge)
--     shared vertex       two_sides_share (two sides have one vertex in common, and the face is listed round it), side_vertex_listed
--     edge between two    between_of_side, between_either_way, next_edge (from an end of an edge to the third vertex of a face of it)
use Prim.Native.Nat.{ℕ, ◌+◌, ◌*◌, ◌/◌, ◌%◌, ◌<◌}
use mathlib.Core.Path.{◌≡◌, refl, sym, ap, subst, ◌∙◌}
use mathlib.Core.Bool.{Bool, true, false, not, cond, true≢false, and-false, and_comm}
use mathlib.Core.List.{List}
use mathlib.Core.Logic.{⊎_elim, ◌⊎◌, inl, inr}
use native.Mathlib.Omega.{arith}
use borrow.Author.Tests.{eqb-true, eqb-false}
use lib.Dec.{eqb}
use lib.ListN.{length, get_or}
use Rattle.job_checks.specs.Sound.{Distinct}
use Rattle.topology.specs.Checked.{ValidTriangles}
use Rattle.topology.specs.Edges.{EndPair, no_edge, no_face, between, off_ends, joins, find, side_vertex, side_edge, edges, tri_edge, faces_among, edge_faces, local, third, shared_vertex, edge_between, vertex_faces}
use Rattle.topology.proofs.Find.{either, same_edge_lem}
use Rattle.topology.proofs.Chosen.{Listed}
use Rattle.topology.proofs.Edges.{edges_numbered, tri_edge_is, tri_edge_there}
use Rattle.topology.proofs.Faces.{OfSide, listed_face, side_listed}
use Rattle.topology.proofs.Triangles.{turn, ends, off, on_first, on_second, local_0, local_1, local_2, third_0, third_1, third_2, side_0, side_1}
use Rattle.topology.proofs.Checked.{three_ways, side_vertex_at, side_vertex_there, inside, side_inside}
use Rattle.topology.proofs.VertexFaces.{vertex_complete}

-- ---- vertices on an edge
pub on_either : (k a b : ℕ) → off_ends k (between a b) ≡ false → (k ≡ a) ⊎ (k ≡ b)
on_either k a b q =
    ⊎_elim (λ p. inl (eqb-true k a p))
    (λ p. ⊎_elim (λ r. inr (eqb-true k b r)) (λ r. absurd (true≢false (sym (off k a b (eqb-false k a p) (eqb-false k b r)) ∙ q))) (either (eqb k b)))
    (either (eqb k a))

pub between_turned : (a b : ℕ) → between a b ≡ between b a
between_turned a b =
    let l : (between a b).low ≡ (between b a).low = ⊎_elim (λ v. ⊎_elim (λ w. omega arith) (λ w. omega arith) (ends b a)) (λ v. ⊎_elim (λ w. omega arith) (λ w. omega arith) (ends b a)) (ends a b) in
    let h : (between a b).high ≡ (between b a).high = ⊎_elim (λ v. ⊎_elim (λ w. omega arith) (λ w. omega arith) (ends b a)) (λ v. ⊎_elim (λ w. omega arith) (λ w. omega arith) (ends b a)) (ends a b) in
    λ i. record { low = l i; high = h i }

-- the vertex that two edges of the triangle a b c share, as `shared_vertex` picks it
abbrev picked : EndPair → EndPair → ℕ
picked x y = cond (off_ends x.low y) x.high x.low

module _ (a b c : ℕ) (d : Distinct a b c) where
  picked_second : picked (between a b) (between b c) ≡ b
  picked_second =
      ⊎_elim (λ w. rw (w.1.0, off a b c d.first_second (λ q. d.third_first (sym q))) w.1.1)
      (λ w. rw (w.1.0, on_first b c))
      (ends a b)

  picked_first : picked (between a b) (between c a) ≡ a
  picked_first =
      ⊎_elim (λ w. rw (w.1.0, on_second c a))
      (λ w. rw (w.1.0, off b c a d.second_third (λ q. d.first_second (sym q))) w.1.1)
      (ends a b)

  -- it is the only one on both
  only_second : (k : ℕ) → off_ends k (between a b) ≡ false → off_ends k (between b c) ≡ false → k ≡ b
  only_second k p q =
      ⊎_elim (λ v. ⊎_elim (λ w. w) (λ w. absurd (d.third_first (sym w ∙ v))) (on_either k b c q)) (λ v. v) (on_either k a b p)

-- both ends of an edge, and one that is not
module _ (a b : ℕ) (e : EndPair) where
  joins_both : off_ends a e ≡ false → off_ends b e ≡ false → joins a b e ≡ true
  unfolding joins
  joins_both p q = rw (p, q)

  joins_not_first : off_ends a e ≡ true → joins a b e ≡ false
  unfolding joins
  joins_not_first p = rw p

  joins_not_second : off_ends b e ≡ true → joins a b e ≡ false
  unfolding joins
  joins_not_second p = rw p (and-false (not (off_ends a e)))

  joins_turned : joins a b e ≡ joins b a e
  unfolding joins
  joins_turned = and_comm (not (off_ends a e)) (not (off_ends b e))

-- ---- sides of one triangle
steps_on : (x y : ℕ) → x < 3 → y < 3 → (x ≡ y) ⊎ ((x ≡ (y + 1) % 3) ⊎ (x ≡ (y + 2) % 3))
steps_on x y l m =
    ⊎_elim (λ p. ⊎_elim (λ q. inl (omega arith)) (⊎_elim (λ q. inr (inl (omega arith))) (λ q. inr (inr (omega arith)))) (three_ways x l))
    (⊎_elim (λ p. ⊎_elim (λ q. inr (inr (omega arith))) (⊎_elim (λ q. inl (omega arith)) (λ q. inr (inl (omega arith)))) (three_ways x l))
    (λ p. ⊎_elim (λ q. inr (inl (omega arith))) (⊎_elim (λ q. inr (inr (omega arith))) (λ q. inl (omega arith))) (three_ways x l)))
    (three_ways y m)

-- where vertex k of side x of triangle f stands
index_of : (f x k : ℕ) → x < 3 → 3 * ((3 * f + x) / 3) + ((3 * f + x) % 3 + k) % 3 ≡ 3 * f + (x + k) % 3
index_of f x k l =
    let d : (3 * f + x) / 3 ≡ f = omega arith in
    let m : (3 * f + x) % 3 ≡ x = omega arith in
    rw (d, m) refl

same_index : (f x y j k : ℕ) → x < 3 → y < 3 → (x + j) % 3 ≡ (y + k) % 3 → 3 * ((3 * f + x) / 3) + ((3 * f + x) % 3 + j) % 3 ≡ 3 * ((3 * f + y) / 3) + ((3 * f + y) % 3 + k) % 3
same_index f x y j k l m q = index_of f x j l ∙ ((λ i. 3 * f + q i) ∙ sym (index_of f y k m))

module _ (triangles : List ℕ) (h : ℕ) where
  -- the three vertices as they stand from where the side starts
  pub side_vertices_distinct : Distinct (get_or triangles (3 * (h / 3)) 0) (get_or triangles (3 * (h / 3) + 1) 0) (get_or triangles (3 * (h / 3) + 2) 0) → Distinct (side_vertex triangles h 0) (side_vertex triangles h 1) (side_vertex triangles h 2)
  side_vertices_distinct d =
      ⊎_elim (λ z. rw (side_vertex_at triangles h 0 (3 * (h / 3)) (omega arith), side_vertex_at triangles h 1 (3 * (h / 3) + 1) (omega arith), side_vertex_at triangles h 2 (3 * (h / 3) + 2) (omega arith)) d)
      (⊎_elim (λ z. rw (side_vertex_at triangles h 0 (3 * (h / 3) + 1) (omega arith), side_vertex_at triangles h 1 (3 * (h / 3) + 2) (omega arith), side_vertex_at triangles h 2 (3 * (h / 3)) (omega arith)) (turn d))
      (λ z. rw (side_vertex_at triangles h 0 (3 * (h / 3) + 2) (omega arith), side_vertex_at triangles h 1 (3 * (h / 3)) (omega arith), side_vertex_at triangles h 2 (3 * (h / 3) + 1) (omega arith)) (turn (turn d))))
      (three_ways (h % 3) (omega arith))

  side_is : side_edge triangles h ≡ between (side_vertex triangles h 0) (side_vertex triangles h 1)
  unfolding side_edge
  side_is = refl

  same_side_vertex : (g j k : ℕ) → 3 * (g / 3) + (g % 3 + j) % 3 ≡ 3 * (h / 3) + (h % 3 + k) % 3 → side_vertex triangles g j ≡ side_vertex triangles h k
  unfolding side_vertex
  same_side_vertex g j k q = ap (λ (x : ℕ). get_or triangles x 0) q

  -- the next side or the one before
  next_or_before : (g : ℕ) → g / 3 ≡ h / 3 → (h ≡ g → ⊥) → ((side_vertex triangles g 0 ≡ side_vertex triangles h 1) × (side_vertex triangles g 1 ≡ side_vertex triangles h 2)) ⊎ ((side_vertex triangles g 0 ≡ side_vertex triangles h 2) × (side_vertex triangles g 1 ≡ side_vertex triangles h 0))
  next_or_before g p ne =
      ⊎_elim (λ z. absurd (ne (omega arith)))
      (⊎_elim (λ z. inl (same_side_vertex g 0 1 (omega arith), same_side_vertex g 1 2 (omega arith)))
      (λ z. inr (same_side_vertex g 0 2 (omega arith), same_side_vertex g 1 0 (omega arith))))
      (steps_on (g % 3) (h % 3) (omega arith) (omega arith))

small : (a b : Bool) → cond a 0 (cond b 1 2) < 3
small true b = omega arith
small false true = omega arith
small false false = omega arith

pub local_below : (triangles : List ℕ) (f e : ℕ) → local triangles f e < 3
unfolding local
local_below triangles f e = small (eqb (tri_edge triangles (3 * f)) e) (eqb (tri_edge triangles (3 * f + 1)) e)

-- What vertex v is to two edges of face f: on both, the only one, in range, and the face is listed round it.
pub record Shared (triangles : List ℕ) (n f e o v : ℕ) : Type 0 where
  pub on_first : off_ends v (get_or (edges triangles) e no_edge) ≡ false
  pub on_second : off_ends v (get_or (edges triangles) o no_edge) ≡ false
  pub only : (k : ℕ) → off_ends k (get_or (edges triangles) e no_edge) ≡ false → off_ends k (get_or (edges triangles) o no_edge) ≡ false → k ≡ v
  pub there : v < n
  pub listed : Listed f (vertex_faces triangles v)

-- What edge x of face f is to the vertices v and c: another side than e, of these two ends.
pub record Beyond (triangles : List ℕ) (f e v c x : ℕ) : Type 0 where
  pub side : ℕ
  pub below : side < 3
  pub is : x ≡ tri_edge triangles (3 * f + side)
  pub ends : get_or (edges triangles) x no_edge ≡ between v c
  pub there : x < length (edges triangles)
  pub listed : Listed f (edge_faces triangles x)
  pub differs : x ≡ e → ⊥

-- Face f of a mesh of valid triangles.
module _ (triangles : List ℕ) (n : ℕ) (s : ValidTriangles triangles n) where
  module _ (h : ℕ) (l : h < length triangles) where
    distinct_at : Distinct (side_vertex triangles h 0) (side_vertex triangles h 1) (side_vertex triangles h 2)
    distinct_at = side_vertices_distinct triangles h (s.distinct (h / 3) (side_inside triangles n s h l))

    edge_at : get_or (edges triangles) (tri_edge triangles h) no_edge ≡ between (side_vertex triangles h 0) (side_vertex triangles h 1)
    edge_at = tri_edge_is triangles h l ∙ side_is triangles h

  -- ---- a face of an edge has it as a side
  module _ (e f : ℕ) (l : e < length (edges triangles)) (of : Listed f (edge_faces triangles e)) where
    side_of_lem : (h : ℕ) × ((h < length triangles) × ((tri_edge triangles h ≡ e) × (f ≡ h / 3)))
    unfolding edge_faces tri_edge
    side_of_lem =
        let x : EndPair = get_or (edges triangles) e no_edge in
        let r : OfSide triangles x (length triangles) (get_or (faces_among triangles x (length triangles)) of.0 no_face) = listed_face triangles x (length triangles) of.0 of.1.0 in
        (r.0, (r.1.0, (ap (λ (y : EndPair). find y (edges triangles)) (same_edge_lem (side_edge triangles r.0) x r.1.1.0) ∙ edges_numbered triangles e l, sym of.1.1 ∙ r.1.1.1)))

    pub face_there : f < length triangles / 3
    face_there = let r = side_of_lem in omega (arith, r.1.0, r.1.1.1, s.whole)

  module _ (f : ℕ) (l : f < length triangles / 3) where
    -- `local` names each side
    pub local_of_side : (k : ℕ) → k < 3 → local triangles f (tri_edge triangles (3 * f + k)) ≡ k
    local_of_side k m =
        let i : 3 * f + 2 < length triangles = inside triangles n s f l in
        let d = s.distinct f l in
        ⊎_elim (λ q. let z : 3 * f + k ≡ 3 * f = omega arith in rw z (local_0 triangles f i d ∙ sym q)) (⊎_elim (λ q. rw q (local_1 triangles f i d)) (λ q. rw q (local_2 triangles f i d))) (three_ways k m)

    -- the vertex opposite to each side
    third_of_side : (k : ℕ) → k < 3 → third triangles (tri_edge triangles (3 * f + k)) f ≡ side_vertex triangles (3 * f + k) 2
    third_of_side k m =
        let i : 3 * f + 2 < length triangles = inside triangles n s f l in
        let d = s.distinct f l in
        ⊎_elim (λ q. let z : 3 * f + k ≡ 3 * f = omega arith in rw z (third_0 triangles f i d ∙ sym (side_vertex_at triangles (3 * f) 2 (3 * f + 2) (omega arith))))
        (⊎_elim (λ q. rw q (third_1 triangles f i d ∙ sym (side_vertex_at triangles (3 * f + 1) 2 (3 * f) (omega arith))))
        (λ q. rw q (third_2 triangles f i d ∙ sym (side_vertex_at triangles (3 * f + 2) 2 (3 * f + 1) (omega arith)))))
        (three_ways k m)

  module _ (e f : ℕ) (l : e < length (edges triangles)) (of : Listed f (edge_faces triangles e)) where
    -- the side h with its number in the face
    place : (h : ℕ) × ((h < length triangles) × ((tri_edge triangles h ≡ e) × (h ≡ 3 * f + local triangles f e)))
    place =
        let r = side_of_lem e f l of in
        let q : 3 * f + r.0 % 3 ≡ r.0 = omega (arith, r.1.1.1) in
        let k : local triangles f e ≡ r.0 % 3 =
        sym (λ i. local triangles f (r.1.1.0 i)) ∙ (sym (λ i. local triangles f (tri_edge triangles (q i))) ∙ local_of_side f (face_there e f l of) (r.0 % 3) (omega arith)) in
        (r.0, (r.1.0, (r.1.1.0, sym q ∙ (λ i. 3 * f + sym k i))))

    pub face_has_side : tri_edge triangles (3 * f + local triangles f e) ≡ e
    face_has_side = let r = place in (λ i. tri_edge triangles (sym r.1.1.1 i)) ∙ r.1.1.0

    -- that side, in the list of all
    pub side_there : 3 * f + local triangles f e < length triangles
    side_there = let r = place in subst (λ (h : ℕ). h < length triangles) r.1.1.1 r.1.0

    -- its ends are those of the edge
    pub edge_is : get_or (edges triangles) e no_edge ≡ between (side_vertex triangles (3 * f + local triangles f e) 0) (side_vertex triangles (3 * f + local triangles f e) 1)
    edge_is = ap (λ (x : ℕ). get_or (edges triangles) x no_edge) (sym face_has_side) ∙ edge_at (3 * f + local triangles f e) side_there

    -- ---- the third vertex
    pub third_is : third triangles e f ≡ side_vertex triangles (3 * f + local triangles f e) 2
    third_is = ap (λ (x : ℕ). third triangles x f) (sym face_has_side) ∙ third_of_side f (face_there e f l of) (local triangles f e) (local_below triangles f e)

    pub third_there : third triangles e f < n
    third_there = subst (λ (k : ℕ). k < n) (sym third_is) (side_vertex_there triangles n s (3 * f + local triangles f e) 2 side_there)

    pub third_off : off_ends (third triangles e f) (get_or (edges triangles) e no_edge) ≡ true
    third_off =
        let d = distinct_at (3 * f + local triangles f e) side_there in
        rw (third_is, edge_is) (off _ _ _ d.third_first (λ q. d.second_third (sym q)))

  -- ---- a face is listed round its vertices
  pub side_vertex_listed : (h k : ℕ) → h < length triangles → Listed (h / 3) (vertex_faces triangles (side_vertex triangles h k))
  unfolding side_vertex
  side_vertex_listed h k l =
      let z : (3 * (h / 3) + (h % 3 + k) % 3) / 3 ≡ h / 3 = omega arith in
      subst (λ (x : ℕ). Listed x (vertex_faces triangles (get_or triangles (3 * (h / 3) + (h % 3 + k) % 3) 0))) z (vertex_complete triangles (3 * (h / 3) + (h % 3 + k) % 3) (omega (arith, s.whole)))

  -- ---- two sides of a face share one vertex, and the face is listed round it
  module _ (f i j : ℕ) (l : f < length triangles / 3) (a : i < 3) (b : j < 3) (ne : i ≡ j → ⊥) where
    abbrev e : ℕ
    e = tri_edge triangles (3 * f + i)

    abbrev o : ℕ
    o = tri_edge triangles (3 * f + j)

    h_in : 3 * f + i < length triangles
    h_in = omega (arith, inside triangles n s f l)

    g_in : 3 * f + j < length triangles
    g_in = omega (arith, inside triangles n s f l)

    shared_is : shared_vertex triangles e o ≡ picked (between (side_vertex triangles (3 * f + i) 0) (side_vertex triangles (3 * f + i) 1)) (between (side_vertex triangles (3 * f + j) 0) (side_vertex triangles (3 * f + j) 1))
    unfolding shared_vertex
    shared_is = λ t. picked (edge_at (3 * f + i) h_in t) (edge_at (3 * f + j) g_in t)

    -- from the two edges as pairs of the triangle's vertices
    shared_of : (x y : EndPair) (v : ℕ) → get_or (edges triangles) e no_edge ≡ x → get_or (edges triangles) o no_edge ≡ y → shared_vertex triangles e o ≡ v
        → off_ends v x ≡ false → off_ends v y ≡ false → ((k : ℕ) → off_ends k x ≡ false → off_ends k y ≡ false → k ≡ v) → v < n → Listed f (vertex_faces triangles v)
        → Shared triangles n f e o (shared_vertex triangles e o)
    shared_of x y v p q r on-e on-o one below listed =
        record {
          on_first = rw (r, p) on-e;
          on_second = rw (r, q) on-o;
          only = λ k c d. one k (subst (λ (z : EndPair). off_ends k z ≡ false) p c) (subst (λ (z : EndPair). off_ends k z ≡ false) q d) ∙ sym r;
          there = rw r below;
          listed = subst (λ (z : ℕ). Listed f (vertex_faces triangles z)) (sym r) listed;
        }

    pub two_sides_share : Shared triangles n f e o (shared_vertex triangles e o)
    two_sides_share =
        let A = side_vertex triangles (3 * f + i) 0 in
        let B = side_vertex triangles (3 * f + i) 1 in
        let C = side_vertex triangles (3 * f + i) 2 in
        let d = distinct_at (3 * f + i) h_in in
        let z : (3 * f + i) / 3 ≡ f = omega arith in
        ⊎_elim
        (λ w.
        let q : get_or (edges triangles) o no_edge ≡ between B C = edge_at (3 * f + j) g_in ∙ (λ t. between (w.0 t) (w.1 t)) in
        shared_of (between A B) (between B C) B (edge_at (3 * f + i) h_in) q
        (shared_is ∙ ((λ t. picked (between A B) (between (w.0 t) (w.1 t))) ∙ picked_second A B C d))
        (on_second A B) (on_first B C) (only_second A B C d)
        (side_vertex_there triangles n s (3 * f + i) 1 h_in)
        (subst (λ (x : ℕ). Listed x (vertex_faces triangles B)) z (side_vertex_listed (3 * f + i) 1 h_in)))
        (λ w.
        let q : get_or (edges triangles) o no_edge ≡ between C A = edge_at (3 * f + j) g_in ∙ (λ t. between (w.0 t) (w.1 t)) in
        shared_of (between A B) (between C A) A (edge_at (3 * f + i) h_in) q
        (shared_is ∙ ((λ t. picked (between A B) (between (w.0 t) (w.1 t))) ∙ picked_first A B C d))
        (on_first A B) (on_second C A) (λ k c x. only_second C A B (turn (turn d)) k x c)
        (side_vertex_there triangles n s (3 * f + i) 0 h_in)
        (subst (λ (x : ℕ). Listed x (vertex_faces triangles A)) z (side_vertex_listed (3 * f + i) 0 h_in)))
        (next_or_before triangles (3 * f + i) (3 * f + j) (omega arith) (λ q. ne (omega arith)))

  -- ---- the edge of a face between two of its vertices
  module _ (f : ℕ) (l : f < length triangles / 3) where
    d_of : Distinct (get_or triangles (3 * f) 0) (get_or triangles (3 * f + 1) 0) (get_or triangles (3 * f + 2) 0)
    d_of = s.distinct f l

    in_of : 3 * f + 2 < length triangles
    in_of = inside triangles n s f l

    at_0 : get_or (edges triangles) (tri_edge triangles (3 * f)) no_edge ≡ between (get_or triangles (3 * f) 0) (get_or triangles (3 * f + 1) 0)
    at_0 = tri_edge_is triangles (3 * f) (omega (arith, in_of)) ∙ side_0 triangles f in_of d_of

    at_1 : get_or (edges triangles) (tri_edge triangles (3 * f + 1)) no_edge ≡ between (get_or triangles (3 * f + 1) 0) (get_or triangles (3 * f + 2) 0)
    at_1 = tri_edge_is triangles (3 * f + 1) (omega (arith, in_of)) ∙ side_1 triangles f in_of d_of

    pub between_0 : edge_between triangles f (get_or triangles (3 * f) 0) (get_or triangles (3 * f + 1) 0) ≡ tri_edge triangles (3 * f)
    unfolding edge_between
    between_0 = rw (at_0, joins_both (get_or triangles (3 * f) 0) (get_or triangles (3 * f + 1) 0) (between (get_or triangles (3 * f) 0) (get_or triangles (3 * f + 1) 0)) (on_first _ _) (on_second _ _))

    pub between_1 : edge_between triangles f (get_or triangles (3 * f + 1) 0) (get_or triangles (3 * f + 2) 0) ≡ tri_edge triangles (3 * f + 1)
    unfolding edge_between
    between_1 =
        rw (
          at_0,
          joins_not_second (get_or triangles (3 * f + 1) 0) (get_or triangles (3 * f + 2) 0) (between (get_or triangles (3 * f) 0) (get_or triangles (3 * f + 1) 0)) (off _ _ _ d_of.third_first (λ q. d_of.second_third (sym q))),
          at_1,
          joins_both (get_or triangles (3 * f + 1) 0) (get_or triangles (3 * f + 2) 0) (between (get_or triangles (3 * f + 1) 0) (get_or triangles (3 * f + 2) 0)) (on_first _ _) (on_second _ _),
        )

    pub between_2 : edge_between triangles f (get_or triangles (3 * f + 2) 0) (get_or triangles (3 * f) 0) ≡ tri_edge triangles (3 * f + 2)
    unfolding edge_between
    between_2 =
        rw (
          at_0,
          joins_not_first (get_or triangles (3 * f + 2) 0) (get_or triangles (3 * f) 0) (between (get_or triangles (3 * f) 0) (get_or triangles (3 * f + 1) 0)) (off _ _ _ d_of.third_first (λ q. d_of.second_third (sym q))),
          at_1,
          joins_not_second (get_or triangles (3 * f + 2) 0) (get_or triangles (3 * f) 0) (between (get_or triangles (3 * f + 1) 0) (get_or triangles (3 * f + 2) 0)) (off _ _ _ d_of.first_second (λ q. d_of.third_first (sym q))),
        )

    pub between_of_side : (k : ℕ) → k < 3 → edge_between triangles f (side_vertex triangles (3 * f + k) 0) (side_vertex triangles (3 * f + k) 1) ≡ tri_edge triangles (3 * f + k)
    between_of_side k m =
        ⊎_elim (λ q. let z : 3 * f + k ≡ 3 * f = omega arith in rw (z, side_vertex_at triangles (3 * f) 0 (3 * f) (omega arith), side_vertex_at triangles (3 * f) 1 (3 * f + 1) (omega arith)) between_0)
        (⊎_elim (λ q. rw (q, side_vertex_at triangles (3 * f + 1) 0 (3 * f + 1) (omega arith), side_vertex_at triangles (3 * f + 1) 1 (3 * f + 2) (omega arith)) between_1)
        (λ q. rw (q, side_vertex_at triangles (3 * f + 2) 0 (3 * f + 2) (omega arith), side_vertex_at triangles (3 * f + 2) 1 (3 * f) (omega arith)) between_2))
        (three_ways k m)

    pub between_either_way : (a b : ℕ) → edge_between triangles f a b ≡ edge_between triangles f b a
    unfolding edge_between
    between_either_way a b =
        λ i. cond (joins_turned a b (get_or (edges triangles) (tri_edge triangles (3 * f)) no_edge) i) (tri_edge triangles (3 * f))
        (cond (joins_turned a b (get_or (edges triangles) (tri_edge triangles (3 * f + 1)) no_edge) i) (tri_edge triangles (3 * f + 1))
        (tri_edge triangles (3 * f + 2)))

  -- ---- from an end v of an edge to the third vertex of a face of it
  module _ (e f v : ℕ) (l : e < length (edges triangles)) (of : Listed f (edge_faces triangles e)) (on : off_ends v (get_or (edges triangles) e no_edge) ≡ false) where
    -- side k of the face, which joins v and c, is another side than e
    beyond : (k c : ℕ) → k < 3 → (k ≡ local triangles f e → ⊥) → c ≡ third triangles e f → edge_between triangles f v c ≡ tri_edge triangles (3 * f + k) → between (side_vertex triangles (3 * f + k) 0) (side_vertex triangles (3 * f + k) 1) ≡ between v c
        → Beyond triangles f e v (third triangles e f) (edge_between triangles f v (third triangles e f))
    beyond k c m ne z is pair =
        let h_in : 3 * f + k < length triangles = omega (arith, inside triangles n s f (face_there e f l of)) in
        let w : (3 * f + k) / 3 ≡ f = omega arith in
        subst (λ (x : ℕ). Beyond triangles f e v x (edge_between triangles f v x)) z
        (record {
          side = k;
          below = m;
          is = is;
          ends = ap (λ (x : ℕ). get_or (edges triangles) x no_edge) is ∙ (edge_at (3 * f + k) h_in ∙ pair);
          there = subst (λ (x : ℕ). x < length (edges triangles)) (sym is) (tri_edge_there triangles (3 * f + k) h_in);
          listed = subst (λ (x : ℕ). Listed f (edge_faces triangles x)) (sym is) (subst (λ (y : ℕ). Listed y (edge_faces triangles (tri_edge triangles (3 * f + k)))) w (side_listed triangles (3 * f + k) h_in));
          differs = λ q. ne (sym (local_of_side f (face_there e f l of) k m) ∙ ap (local triangles f) (sym is ∙ q));
        })

    pub next_edge : Beyond triangles f e v (third triangles e f) (edge_between triangles f v (third triangles e f))
    next_edge =
        let k = local triangles f e in
        let m : k < 3 = local_below triangles f e in
        let fl = face_there e f l of in
        let A = side_vertex triangles (3 * f + k) 0 in
        let B = side_vertex triangles (3 * f + k) 1 in
        let C = side_vertex triangles (3 * f + k) 2 in
        let up = (k + 1) % 3 in
        let back = (k + 2) % 3 in
        let u0 : side_vertex triangles (3 * f + up) 0 ≡ B = same_side_vertex triangles (3 * f + k) (3 * f + up) 0 1 (same_index f up k 0 1 (omega arith) m (omega arith)) in
        let u1 : side_vertex triangles (3 * f + up) 1 ≡ C = same_side_vertex triangles (3 * f + k) (3 * f + up) 1 2 (same_index f up k 1 2 (omega arith) m (omega arith)) in
        let b0 : side_vertex triangles (3 * f + back) 0 ≡ C = same_side_vertex triangles (3 * f + k) (3 * f + back) 0 2 (same_index f back k 0 2 (omega arith) m (omega arith)) in
        let b1 : side_vertex triangles (3 * f + back) 1 ≡ A = same_side_vertex triangles (3 * f + k) (3 * f + back) 1 0 (same_index f back k 1 0 (omega arith) m (omega arith)) in
        ⊎_elim
        (λ q. beyond back C (omega arith) (λ x. omega arith) (sym (third_is e f l of))
        (between_either_way f fl v C ∙ ((λ t. edge_between triangles f (sym b0 t) ((q ∙ sym b1) t)) ∙ between_of_side f fl back (omega arith)))
        ((λ t. between (b0 t) ((b1 ∙ sym q) t)) ∙ between_turned C v))
        (λ q. beyond up C (omega arith) (λ x. omega arith) (sym (third_is e f l of))
        ((λ t. edge_between triangles f ((q ∙ sym u0) t) (sym u1 t)) ∙ between_of_side f fl up (omega arith))
        (λ t. between ((u0 ∙ sym q) t) (u1 t)))
        (on_either v A B (subst (λ (x : EndPair). off_ends v x ≡ false) (edge_is e f l of) on))
