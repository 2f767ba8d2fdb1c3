-- The answers as the code computes them. Assumes nothing.
use Prim.Native.Nat.{ℕ, ◌+◌, ◌*◌}
use mathlib.Core.Path.{◌≡◌, refl, sym, ap, ◌∙◌}
use mathlib.Core.Bool.{Bool, true, false, ◌||◌}
use mathlib.Core.List.{List}
use native.Mathlib.Omega.{arith}
use borrow.Author.Tests.{eq-eqb, ne_eqb}
use lib.Dec.{eqb}
use lib.ListN.{get_or}
use lib.Ieee.{Float}
use Rattle.layout.specs.Layout.{vertices_per_triangle, words_per_round, round_face, words_per_triangle}
use Rattle.vec3.specs.declared.Vec3.{Vec3}
use Rattle.vec3.specs.Vec.{sub_of, dot_of}
use Rattle.buffers.specs.declared.EdgeId.{EdgeId}
use Rattle.buffers.specs.declared.FaceId.{FaceId}
use Rattle.buffers.specs.declared.VertexId.{VertexId}
use Rattle.job_checks.specs.Edge.{vertex_at}
use Rattle.topology.specs.Edges.{off_ends, joins}
use Rattle.frames.specs.Stored.{low_at, high_at, face_at, unit_at, origin_at}
use Rattle.windows.specs.declared.Edge.{Edge as TrimEdge}
use Rattle.mesh_readers.specs.declared.EdgeEnds.{EdgeEnds}
use Rattle.mesh_readers.specs.declared.FacePair.{FacePair}
use Rattle.mesh_readers.specs.declared.FrameCoords.{FrameCoords}
use Rattle.mesh_readers.specs.declared.RoundRange.{RoundRange}
use Rattle.mesh_readers.specs.Readers.{edge_at, round_at, other_at, shared_at, side_in, normal_in, local_at, third_at, edge_between_at, face_of, side_to_at, coords_at}

pub other_here : (w : List ℕ) (e f a b : ℕ) → a ≡ face_at w e 0 → b ≡ face_at w e 1 → a ≡ f → b ≡ other_at w e f
unfolding other_at
other_here w e f a b p q r = rw (eq-eqb (face_at w e 0) f (sym p ∙ r)) q

pub other_there : (w : List ℕ) (e f a : ℕ) → a ≡ face_at w e 0 → (a ≡ f → ⊥) → a ≡ other_at w e f
unfolding other_at
other_there w e f a p r = rw (ne_eqb (face_at w e 0) f (λ q. r (p ∙ q))) p

module _ (w : List ℕ) (f e a : ℕ) (p : a ≡ get_or w (words_per_triangle * f + 0) 0) where
  pub local_first : a ≡ e → 0 ≡ local_at w f e
  unfolding local_at
  local_first r = rw (eq-eqb (get_or w (words_per_triangle * f + 0) 0) e (sym p ∙ r))

  module _ (n : a ≡ e → ⊥) (b : ℕ) (q : b ≡ get_or w (words_per_triangle * f + 1) 0) where
    pub local_second : b ≡ e → 1 ≡ local_at w f e
    unfolding local_at
    local_second r = rw (ne_eqb (get_or w (words_per_triangle * f + 0) 0) e (λ s. n (p ∙ s)), eq-eqb (get_or w (words_per_triangle * f + 1) 0) e (sym q ∙ r))

    pub local_third : (b ≡ e → ⊥) → 2 ≡ local_at w f e
    unfolding local_at
    local_third m = rw (ne_eqb (get_or w (words_per_triangle * f + 0) 0) e (λ s. n (p ∙ s)), ne_eqb (get_or w (words_per_triangle * f + 1) 0) e (λ s. m (q ∙ s)))

pub vertex_id : (a b : ℕ) → a ≡ b → ◌≡◌ {A = VertexId} (record { 0 = a }) (record { 0 = b })
vertex_id a b q i = record { 0 = q i }

pub face_id : (a b : ℕ) → a ≡ b → ◌≡◌ {A = FaceId} (record { 0 = a }) (record { 0 = b })
face_id a b q i = record { 0 = q i }

pub off_both : (k low high : ℕ) → (k ≡ low → ⊥) → (k ≡ high → ⊥) → off_ends k (record { low = low; high = high }) ≡ true
unfolding off_ends
off_both k low high p q = rw (ne_eqb k low p, ne_eqb k high q)

module _ (t w : List ℕ) (e f low high a : ℕ) (p : low ≡ low_at w e) (q : high ≡ high_at w e) (r : a ≡ get_or t (vertices_per_triangle * f + 0) 0) where
  edge_is : (x : ℕ) (y : ℕ) → x ≡ y → off_ends x (record { low = low; high = high }) ≡ off_ends y (record { low = low_at w e; high = high_at w e })
  edge_is x y z i = off_ends (z i) (record { low = p i; high = q i })

  pub third_first : (o : Bool) → o ≡ off_ends a (record { low = low; high = high }) → o ≡ true → a ≡ third_at t w e f
  unfolding third_at
  third_first o g h = rw (sym (edge_is a (get_or t (vertices_per_triangle * f + 0) 0) r) ∙ (sym g ∙ h)) r

  module _ (o : Bool) (g : o ≡ off_ends a (record { low = low; high = high })) (h : o ≡ false) (b : ℕ) (s : b ≡ get_or t (vertices_per_triangle * f + 1) 0) (n : Bool) (k : n ≡ off_ends b (record { low = low; high = high })) where
    pub third_second : n ≡ true → b ≡ third_at t w e f
    unfolding third_at
    third_second m = rw (sym (edge_is a (get_or t (vertices_per_triangle * f + 0) 0) r) ∙ (sym g ∙ h), sym (edge_is b (get_or t (vertices_per_triangle * f + 1) 0) s) ∙ (sym k ∙ m)) s

    pub third_last : n ≡ false → (c : ℕ) → c ≡ get_or t (vertices_per_triangle * f + 2) 0 → c ≡ third_at t w e f
    unfolding third_at
    third_last m c z = rw (sym (edge_is a (get_or t (vertices_per_triangle * f + 0) 0) r) ∙ (sym g ∙ h), sym (edge_is b (get_or t (vertices_per_triangle * f + 1) 0) s) ∙ (sym k ∙ m)) z

pub edge_id : (a b : ℕ) → a ≡ b → ◌≡◌ {A = EdgeId} (record { 0 = a }) (record { 0 = b })
edge_id a b q i = record { 0 = q i }

pub ends_of : (a b x y : ℕ) → a ≡ x → b ≡ y → ◌≡◌ {A = EdgeEnds} (record { a = record { 0 = a }; b = record { 0 = b } }) (record { a = record { 0 = x }; b = record { 0 = y } })
ends_of a b x y p q i = record { a = record { 0 = p i }; b = record { 0 = q i } }

pub edge_of : (id : EdgeId) (l m : Float) (a b x y : ℕ) → l ≡ m → a ≡ x → b ≡ y
    → ◌≡◌ {A = TrimEdge} (record { id = id; len = l; a = record { 0 = a }; b = record { 0 = b } }) (record { id = id; len = m; a = record { 0 = x }; b = record { 0 = y } })
edge_of id l m a b x y q r s i = record { id = id; len = q i; a = record { 0 = r i }; b = record { 0 = s i } }

pub faces_of_lem : (a b x y : ℕ) → a ≡ x → b ≡ y → ◌≡◌ {A = FacePair} (record { first = record { 0 = a }; second = record { 0 = b } }) (record { first = record { 0 = x }; second = record { 0 = y } })
faces_of_lem a b x y p q i = record { first = record { 0 = p i }; second = record { 0 = q i } }

pub range_of : (a b x y : ℕ) → a ≡ x → b ≡ y → ◌≡◌ {A = RoundRange} (record { start = a; end = b }) (record { start = x; end = y })
range_of a b x y p q i = record { start = p i; end = q i }

pub round_is : (w : List ℕ) (i : ℕ) → get_or w (words_per_round * i + round_face) 0 ≡ round_at w i
round_is w i = let z : words_per_round * i + round_face ≡ i = omega arith in ap (λ (k : ℕ). get_or w k 0) z

-- ---- the vertex that two edges share
module _ (w : List ℕ) (e o a low high : ℕ) (p : a ≡ low_at w e) (q : low ≡ low_at w o) (r : high ≡ high_at w o) where
  off_is : off_ends a (record { low = low; high = high }) ≡ off_ends (low_at w e) (edge_at w o)
  off_is i = off_ends (p i) (record { low = q i; high = r i })

  pub shared_second : (t : Bool) → t ≡ off_ends a (record { low = low; high = high }) → t ≡ true → (b : ℕ) → b ≡ high_at w e → b ≡ shared_at w e o
  unfolding shared_at
  shared_second t g h b s = rw (sym off_is ∙ (sym g ∙ h)) s

  pub shared_first : (t : Bool) → t ≡ off_ends a (record { low = low; high = high }) → t ≡ false → a ≡ shared_at w e o
  unfolding shared_at
  shared_first t g h = rw (sym off_is ∙ (sym g ∙ h)) p

-- ---- both ends of an edge
module _ (a b low high x y : ℕ) (q : low ≡ x) (r : high ≡ y) where
  at_edge : (k : ℕ) → off_ends k (record { low = low; high = high }) ≡ off_ends k (record { low = x; high = y })
  at_edge k i = off_ends k (record { low = q i; high = r i })

  pub joins_not_first : (t : Bool) → t ≡ off_ends a (record { low = low; high = high }) → t ≡ true → false ≡ joins a b (record { low = x; high = y })
  unfolding joins
  joins_not_first t g h = rw (sym (at_edge a) ∙ (sym g ∙ h)) refl

  module _ (t : Bool) (g : t ≡ off_ends a (record { low = low; high = high })) (h : t ≡ false) (u : Bool) (k : u ≡ off_ends b (record { low = low; high = high })) where
    pub joins_not_second : u ≡ true → false ≡ joins a b (record { low = x; high = y })
    unfolding joins
    joins_not_second m = rw (sym (at_edge a) ∙ (sym g ∙ h), sym (at_edge b) ∙ (sym k ∙ m)) refl

    pub joins_both : u ≡ false → true ≡ joins a b (record { low = x; high = y })
    unfolding joins
    joins_both m = rw (sym (at_edge a) ∙ (sym g ∙ h), sym (at_edge b) ∙ (sym k ∙ m)) refl

-- ---- the edge of a face between two vertices
module _ (w tw : List ℕ) (f a b first : ℕ) (p : first ≡ side_in tw f 0) (t : Bool) (g : t ≡ joins a b (edge_at w first)) where
  joins_first : joins a b (edge_at w (side_in tw f 0)) ≡ t
  joins_first = sym (g ∙ (λ i. joins a b (edge_at w (p i))))

  pub between_first : t ≡ true → first ≡ edge_between_at w tw f a b
  unfolding edge_between_at
  between_first h = rw (joins_first ∙ h) p

  module _ (h : t ≡ false) (second : ℕ) (q : second ≡ side_in tw f 1) (u : Bool) (k : u ≡ joins a b (edge_at w second)) where
    joins_second : joins a b (edge_at w (side_in tw f 1)) ≡ u
    joins_second = sym (k ∙ (λ i. joins a b (edge_at w (q i))))

    pub between_second : u ≡ true → second ≡ edge_between_at w tw f a b
    unfolding edge_between_at
    between_second m = rw (joins_first ∙ h, joins_second ∙ m) q

    pub between_third : u ≡ false → (c : ℕ) → c ≡ side_in tw f 2 → c ≡ edge_between_at w tw f a b
    unfolding edge_between_at
    between_third m c s = rw (joins_first ∙ h, joins_second ∙ m) s

-- ---- coordinates
pub coords_of_lem : (v : List Float) (ew : List ℕ) (er : List Float) (tw : List ℕ) (tr : List Float) (e f a k : ℕ) (p o w u n : Vec3) (x y : Float)
    → a ≡ low_at ew e → o ≡ vertex_at v a → w ≡ sub_of p o → u ≡ unit_at er e → k ≡ local_at tw f e → n ≡ normal_in tr f k → x ≡ dot_of w u → y ≡ dot_of w n
    → ◌≡◌ {A = FrameCoords} (record { x = x; y = y }) (coords_at v ew er tw tr e f p)
unfolding coords_at
coords_of_lem v ew er tw tr e f a k p o w u n x y first from along unit place normal is_x is_y =
    let W : w ≡ sub_of p (origin_at v ew e) = along ∙ (λ i. sub_of p ((from ∙ ap (vertex_at v) first) i)) in
    let N : n ≡ normal_in tr f (local_at tw f e) = normal ∙ ap (normal_in tr f) place in
    λ i. record { x = (is_x ∙ (λ j. dot_of (W j) (unit j))) i; y = (is_y ∙ (λ j. dot_of (W j) (N j))) i }

-- ---- whether an edge has a face, and the side of a face towards another
module _ (a b h x y : ℕ) where
  pub has_first : a ≡ x → a ≡ h → true ≡ (eqb x h || eqb y h)
  has_first p r = rw (eq-eqb x h (sym p ∙ r)) refl

  pub has_second : a ≡ x → (a ≡ h → ⊥) → b ≡ y → b ≡ h → true ≡ (eqb x h || eqb y h)
  has_second p n q r = rw (ne_eqb x h (λ s. n (p ∙ s)), eq-eqb y h (sym q ∙ r)) refl

  pub has_neither : a ≡ x → (a ≡ h → ⊥) → b ≡ y → (b ≡ h → ⊥) → false ≡ (eqb x h || eqb y h)
  has_neither p n q m = rw (ne_eqb x h (λ s. n (p ∙ s)), ne_eqb y h (λ s. m (q ∙ s))) refl

module _ (w tw : List ℕ) (f h first : ℕ) (p : first ≡ side_in tw f 0) (t : Bool) (g : t ≡ face_of w first h) where
  has_0 : face_of w (side_in tw f 0) h ≡ t
  has_0 = sym (g ∙ (λ i. face_of w (p i) h))

  pub side_to_0 : t ≡ true → 0 ≡ side_to_at w tw f h
  unfolding side_to_at
  side_to_0 z = rw (has_0 ∙ z) refl

  module _ (z : t ≡ false) (second : ℕ) (q : second ≡ side_in tw f 1) (u : Bool) (k : u ≡ face_of w second h) where
    has_1 : face_of w (side_in tw f 1) h ≡ u
    has_1 = sym (k ∙ (λ i. face_of w (q i) h))

    pub side_to_1 : u ≡ true → 1 ≡ side_to_at w tw f h
    unfolding side_to_at
    side_to_1 y = rw (has_0 ∙ z, has_1 ∙ y) refl

    module _ (y : u ≡ false) (third : ℕ) (s : third ≡ side_in tw f 2) (o : Bool) (m : o ≡ face_of w third h) where
      has_2 : face_of w (side_in tw f 2) h ≡ o
      has_2 = sym (m ∙ (λ i. face_of w (s i) h))

      pub side_to_2 : o ≡ true → 2 ≡ side_to_at w tw f h
      unfolding side_to_at
      side_to_2 x = rw (has_0 ∙ z, has_1 ∙ y, has_2 ∙ x) refl

      pub side_to_none : o ≡ false → 3 ≡ side_to_at w tw f h
      unfolding side_to_at
      side_to_none x = rw (has_0 ∙ z, has_1 ∙ y, has_2 ∙ x) refl
