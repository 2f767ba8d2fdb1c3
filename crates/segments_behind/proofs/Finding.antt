-- The answers from the values that the code computed. Assumes nothing.
use Prim.Native.Nat.{ℕ, ◌+◌, ◌*◌, ◌/◌, ◌%◌}
use mathlib.Core.Path.{◌≡◌, refl, sym, ap, ◌∙◌}
use mathlib.Core.Bool.{Bool, true, false, not, ◌||◌}
use mathlib.Core.List.{List}
use native.Mathlib.Omega.{arith}
use borrow.Author.Tests.{eq-eqb, ne_eqb}
use lib.Dec.{eqb}
use lib.Ieee.{Float, nan, neg}
use lib.ListN.{get_or}
use Rattle.layout.specs.Layout.{reals_per_piece}
use Rattle.float64.specs.Scalar.{one}
use Rattle.vec3.specs.declared.Vec3.{Vec3}
use Rattle.vec3.specs.Vec.{scale_of}
use Rattle.buffers.specs.declared.FaceId.{FaceId}
use Rattle.frames.specs.Stored.{vector_from, vector_at}
use Rattle.piece_ends.specs.Directions.{is_long}
use Rattle.piece_ends.specs.Walk.{find_along, first_link_at, next_link_at}
use Rattle.segments_behind.specs.Behind.{turned_at, in_face, first_behind_at, next_behind_at}
use Rattle.segments_behind.specs.Round.{has_vertex, is_round, any_round_at}

pub face_read : (faces : List ℕ) (e : ℕ) → get_or faces (1 * (e / 2) + 0) 0 ≡ get_or faces (e / 2) 0
face_read faces e = let z : 1 * (e / 2) + 0 ≡ e / 2 = omega arith in ap (λ (k : ℕ). get_or faces k 0) z

module _ (kinds faces : List ℕ) (coords : List Float) (e : ℕ) (f : FaceId) (is_f : f ≡ record { 0 = get_or faces (e / 2) 0 }) where
  number_is : f.0 ≡ get_or faces (e / 2) 0
  number_is = ap (λ (h : FaceId). h.0) is_f

  pub other_face : (g : ℕ) → (f.0 ≡ g → ⊥) → false ≡ in_face kinds faces coords g e
  unfolding in_face
  other_face g ne = sym (rw (ne_eqb (get_or faces (e / 2) 0) g (λ z. ne (number_is ∙ z))) refl)

  pub same_face : (g : ℕ) (r : Bool) → f.0 ≡ g → r ≡ is_long kinds coords (e / 2) → r ≡ in_face kinds faces coords g e
  unfolding in_face
  same_face g r q is-r = is-r ∙ sym (rw (eq-eqb (get_or faces (e / 2) 0) g (sym number_is ∙ q)) refl)

  module _ (triangles : List ℕ) (k : ℕ) where
    pub round_long : (r : Bool) → is_long kinds coords (e / 2) ≡ true → r ≡ has_vertex triangles f.0 k → r ≡ is_round kinds faces coords triangles k e
    unfolding is_round
    round_long r long is-r = is-r ∙ (ap (λ (g : ℕ). has_vertex triangles g k) number_is ∙ sym (rw long refl))

pub round_short : (kinds faces : List ℕ) (coords : List Float) (triangles : List ℕ) (k e : ℕ) → is_long kinds coords (e / 2) ≡ false → false ≡ is_round kinds faces coords triangles k e
unfolding is_round
round_short kinds faces coords triangles k e short = sym (rw short refl)

-- ---- a face's vertices
module _ (triangles : List ℕ) (g k a : ℕ) (is-a : a ≡ get_or triangles (3 * g + 0) 0) where
  pub first_vertex : a ≡ k → true ≡ has_vertex triangles g k
  unfolding has_vertex
  first_vertex q = sym (rw (eq-eqb (get_or triangles (3 * g + 0) 0) k (sym is-a ∙ q)) refl)

  module _ (na : a ≡ k → ⊥) (b : ℕ) (is_b : b ≡ get_or triangles (3 * g + 1) 0) where
    not_first : has_vertex triangles g k ≡ (eqb (get_or triangles (3 * g + 1) 0) k || eqb (get_or triangles (3 * g + 2) 0) k)
    unfolding has_vertex
    not_first = rw (ne_eqb (get_or triangles (3 * g + 0) 0) k (λ z. na (is-a ∙ z))) refl

    pub second_vertex : b ≡ k → true ≡ has_vertex triangles g k
    second_vertex q = sym (not_first ∙ rw (eq-eqb (get_or triangles (3 * g + 1) 0) k (sym is_b ∙ q)) refl)

    module _ (nb : b ≡ k → ⊥) (c : ℕ) (is_c : c ≡ get_or triangles (3 * g + 2) 0) where
      pub third_vertex : c ≡ k → true ≡ has_vertex triangles g k
      third_vertex q = sym (not_first ∙ rw (ne_eqb (get_or triangles (3 * g + 1) 0) k (λ z. nb (is_b ∙ z)), eq-eqb (get_or triangles (3 * g + 2) 0) k (sym is_c ∙ q)) refl)

      pub no_vertex : (c ≡ k → ⊥) → false ≡ has_vertex triangles g k
      no_vertex nc = sym (not_first ∙ rw (ne_eqb (get_or triangles (3 * g + 1) 0) k (λ z. nb (is_b ∙ z)), ne_eqb (get_or triangles (3 * g + 2) 0) k (λ z. nc (is_c ∙ z))) refl)

-- ---- a direction
module _ (reals : List Float) (e : ℕ) (d : Vec3) (is-d : d ≡ vector_from reals (reals_per_piece * (e / 2))) where
  slot_is : d ≡ vector_at reals_per_piece reals (e / 2) 0
  slot_is = let z : reals_per_piece * (e / 2) ≡ reals_per_piece * (e / 2) + 0 = omega arith in is-d ∙ (λ i. record { x = get_or reals (z i) nan; y = get_or reals (reals_per_piece * (e / 2) + 1) nan; z = get_or reals (reals_per_piece * (e / 2) + 2) nan })

  pub leaves_first : e % 2 ≡ 0 → d ≡ turned_at e (vector_at reals_per_piece reals (e / 2) 0)
  leaves_first q = rw (eq-eqb (e % 2) 0 q) slot_is

  pub leaves_second : (r : Vec3) → (e % 2 ≡ 0 → ⊥) → r ≡ scale_of d (neg one) → r ≡ turned_at e (vector_at reals_per_piece reals (e / 2) 0)
  leaves_second r q is-r = rw (ne_eqb (e % 2) 0 q) (is-r ∙ ap (λ (u : Vec3). scale_of u (neg one)) slot_is)

-- ---- searches
module _ (kinds faces : List ℕ) (coords : List Float) (words : List ℕ) (pieces : ℕ) where
  pub next_behind_done : (g e link r : ℕ) → link ≡ next_link_at coords words pieces e → r ≡ first_behind_at kinds faces coords words pieces g link → r ≡ next_behind_at kinds faces coords words pieces g e
  unfolding next_behind_at
  next_behind_done g e link r is-link is-r = is-r ∙ ap (first_behind_at kinds faces coords words pieces g) is-link

  module _ (triangles : List ℕ) (k : ℕ) (p : Vec3) (link r : ℕ) (is-link : link ≡ first_link_at coords words pieces p) (is-r : r ≡ find_along (next_link_at coords words pieces) (is_round kinds faces coords triangles k) (2 * pieces) link) where
    found_is : r ≡ find_along (next_link_at coords words pieces) (is_round kinds faces coords triangles k) (2 * pieces) (first_link_at coords words pieces p)
    found_is = is-r ∙ ap (find_along (next_link_at coords words pieces) (is_round kinds faces coords triangles k) (2 * pieces)) is-link

    pub round_none : r ≡ 0 → false ≡ any_round_at kinds faces coords triangles words pieces k p
    unfolding any_round_at
    round_none z = sym (ap not (eq-eqb _ 0 (sym found_is ∙ z)))

    pub round_some : (r ≡ 0 → ⊥) → true ≡ any_round_at kinds faces coords triangles words pieces k p
    unfolding any_round_at
    round_some z = sym (ap not (ne_eqb _ 0 (λ q. z (found_is ∙ q))))
