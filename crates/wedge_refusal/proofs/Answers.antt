-- The answers from the values that the code computed. Assumes nothing.
use Prim.Native.Nat.{ℕ, ◌/◌, ◌<◌, ◌≤◌}
use mathlib.Core.Path.{◌≡◌, refl, sym, ap, ◌∙◌}
use mathlib.Core.Bool.{Bool, true, false}
use mathlib.Core.List.{List}
use borrow.Author.Tests.{lt-ltb, le-ltb}
use lib.Dec.{ltb}
use lib.Ieee.{Float}
use lib.ListN.{get_or}
use Rattle.vec3.specs.declared.Vec3.{Vec3}
use Rattle.buffers.specs.declared.FaceId.{FaceId}
use Rattle.buffers.specs.declared.VertexId.{VertexId}
use Rattle.carriers.specs.declared.CarrierSimplex.{CarrierSimplex}
use Rattle.carriers.specs.Carrier.{carrier_at, carrier_count_at}
use Rattle.carriers.specs.Nearest.{nearest_at}
use Rattle.segments_behind.specs.of_piece_ends.Ends.{end_point}
use Rattle.segments_behind.specs.of_piece_ends.Walk.{is_first_at}
use Rattle.segments_behind.specs.Round.{any_round_at}
use Rattle.wedge_refusal.specs.Wedge.{over_two_at, wedge_at}

module _ (v : List Float) (edge_words : List ℕ) (edge_reals : List Float) (triangle_words : List ℕ) (triangleReals : List Float) (vertex_words : List ℕ) where
  module _ (f : ℕ) (p : Vec3) (c : CarrierSimplex) (count : ℕ) (is_c : c ≡ carrier_at v edge_words edge_reals triangle_words triangleReals f p) (is-count : count ≡ carrier_count_at edge_words vertex_words c) where
    count_is : count ≡ carrier_count_at edge_words vertex_words (carrier_at v edge_words edge_reals triangle_words triangleReals f p)
    count_is = is-count ∙ ap (carrier_count_at edge_words vertex_words) is_c

    pub over_two : 2 < count → true ≡ over_two_at v edge_words edge_reals triangle_words triangleReals vertex_words f p
    unfolding over_two_at
    over_two l = sym (lt-ltb 2 count l) ∙ ap (ltb 2) count_is

    pub at_most_two : count ≤ 2 → false ≡ over_two_at v edge_words edge_reals triangle_words triangleReals vertex_words f p
    unfolding over_two_at
    at_most_two l = sym (le-ltb 2 count l) ∙ ap (ltb 2) count_is

  module _ (triangles kinds faces : List ℕ) (coords : List Float) (words : List ℕ) (pieces e : ℕ) where
    pub met_before : is_first_at kinds coords words pieces e ≡ false → false ≡ wedge_at v edge_words edge_reals triangle_words triangleReals vertex_words triangles kinds faces coords words pieces e
    unfolding wedge_at
    met_before h = sym (rw h refl)

    module _ (first : is_first_at kinds coords words pieces e ≡ true) (f : FaceId) (p : Vec3) (over : Bool) (is_f : f ≡ record { 0 = get_or faces (e / 2) 0 }) (is-p : p ≡ end_point coords e) (is-over : over ≡ over_two_at v edge_words edge_reals triangle_words triangleReals vertex_words f.0 p) where
      over_is : over ≡ over_two_at v edge_words edge_reals triangle_words triangleReals vertex_words (get_or faces (e / 2) 0) (end_point coords e)
      over_is = is-over ∙ (λ i. over_two_at v edge_words edge_reals triangle_words triangleReals vertex_words (is_f i).0 (is-p i))

      pub few_carriers : over ≡ false → false ≡ wedge_at v edge_words edge_reals triangle_words triangleReals vertex_words triangles kinds faces coords words pieces e
      unfolding wedge_at
      few_carriers h = sym (rw (first, sym over_is ∙ h) refl)

      pub many_carriers : (k : VertexId) (r : Bool) → over ≡ true → k ≡ record { 0 = nearest_at v triangles f.0 p } → r ≡ any_round_at kinds faces coords triangles words pieces k.0 p → r ≡ wedge_at v edge_words edge_reals triangle_words triangleReals vertex_words triangles kinds faces coords words pieces e
      unfolding wedge_at
      many_carriers k r h is-k is-r =
          is-r
          ∙ ((λ i. any_round_at kinds faces coords triangles words pieces (is-k i).0 p)
          ∙ ((λ i. any_round_at kinds faces coords triangles words pieces (nearest_at v triangles (is_f i).0 (is-p i)) (is-p i)) ∙ sym (rw (first, sym over_is ∙ h) refl)))
