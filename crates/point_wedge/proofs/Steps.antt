-- The ranges as the code computes them. Assumes nothing.
use Prim.Native.Nat.{ℕ, zero, suc, ◌-◌, ◌*◌, ◌<◌, ◌≤◌}
use mathlib.Core.Path.{◌≡◌, refl, sym, ap, ◌∙◌}
use mathlib.Core.Bool.{cond}
use mathlib.Core.List.{List, [], ◌∷◌, ◌++◌, map}
use mathlib.Core.Logic.{◌≢◌}
use native.Mathlib.Omega.{arith}
use borrow.Author.Tests.{eq-eqb, ne_eqb}
use lib.Ieee.{Float}
use Rattle.vec3.specs.declared.Vec3.{Vec3}
use Rattle.buffers.specs.declared.EdgeId.{EdgeId}
use Rattle.job_checks.specs.Edge.{vertex_at}
use Rattle.segments_behind.specs.of_frames.Stored.{unit_at, length_at, origin_at}
use Rattle.carriers.specs.of_mesh_readers.declared.EdgeEnds.{EdgeEnds}
use Rattle.carriers.specs.of_mesh_readers.Readers.{ends_at, side_in, normal_in, local_at, side_to_at}
use Rattle.carriers.specs.of_source_windows.declared.Bounds.{Bounds}
use Rattle.carriers.specs.of_source_windows.Wedge.{whole_of, behind_of, wedge_of}
use Rattle.segments_behind.specs.of_piece_ends.Walk.{follow}
use Rattle.segments_behind.specs.Behind.{first_behind_at, next_behind_at, leaving_at}
use Rattle.point_wedge.specs.declared.Plane.{Plane}
use Rattle.point_wedge.specs.declared.Plane.TheVariants.{Own, Across}
use Rattle.point_wedge.specs.Wedge.{laid_of, across_at, behind_at, pair_at, directions_at, bounds_at}

-- ---- lists of directions
module _ (o p xhat : Vec3) where
  pub wedge_both : (w : Bounds) (ds es : List Vec3) → wedge_of o p xhat (wedge_of o p xhat w ds) es ≡ wedge_of o p xhat w (ds ++ es)
  unfolding wedge_of
  wedge_both w [] es = refl
  wedge_both w (d ∷ ds) es = wedge_both (behind_of o p xhat w d) ds es

  pub wedge_none : (w : Bounds) → w ≡ wedge_of o p xhat w []
  unfolding wedge_of
  wedge_none w = refl

pub own_plane : (ds : List Vec3) → map (laid_of Own) ds ≡ ds
unfolding laid_of
own_plane [] = refl
own_plane (d ∷ ds) = λ i. d ∷ own_plane ds i

-- ---- the walk along the links
-- the range behind the ends from a link on, up to k of them
module _ (o p xhat : Vec3) (plane : Plane) (dir : ℕ → Vec3) (next : ℕ → ℕ) where
  abbrev pub narrowed : ℕ → ℕ → Bounds → Bounds
  narrowed k at w = wedge_of o p xhat w (map (laid_of plane) (map dir (follow next k at)))

  none_left : (at : ℕ) (w : Bounds) → narrowed 0 at w ≡ w
  unfolding follow wedge_of
  none_left at w = refl

  no_link : (k : ℕ) (w : Bounds) → narrowed k 0 w ≡ w
  unfolding follow wedge_of
  no_link zero w = refl
  no_link (suc k) w = refl

  one_more : (k e : ℕ) (w : Bounds) → narrowed (suc k) (suc e) w ≡ narrowed k (next e) (behind_of o p xhat w (laid_of plane (dir e)))
  unfolding follow wedge_of
  one_more k e w = refl

  -- the loop's ends, and its turn
  module _ (all : Bounds) (rest at : ℕ) (w : Bounds) (inv : all ≡ narrowed rest at w) where
    pub narrow_ends : at ≡ 0 → w ≡ all
    narrow_ends z = sym (inv ∙ (ap (λ (k : ℕ). narrowed rest k w) z ∙ no_link rest w))

    pub narrow_spent : rest ≤ 0 → w ≡ all
    narrow_spent z = let n : rest ≡ 0 = omega arith in sym (inv ∙ (ap (λ (k : ℕ). narrowed k at w) n ∙ none_left at w))

    pub narrow_turn : 0 < rest → at ≢ 0 → (part : Bounds) → part ≡ behind_of o p xhat w (laid_of plane (dir (at - 1))) → (k : ℕ) → k ≡ next (at - 1) → all ≡ narrowed (rest - 1) k part
    narrow_turn more live part is-part k is-k =
        let r : rest ≡ suc (rest - 1) = omega arith in
        let a : at ≡ suc (at - 1) = omega arith in
        inv ∙ ((λ i. narrowed (r i) (a i) w) ∙ (one_more (rest - 1) (at - 1) w ∙ (λ i. narrowed (rest - 1) (sym is-k i) (sym is-part i))))

pub walk_is : (kinds faces : List ℕ) (coords : List Float) (words : List ℕ) (reals : List Float) (pieces f first : ℕ) (plane : Plane) (o p xhat : Vec3) (w : Bounds) (at : ℕ)
    → at ≡ first_behind_at kinds faces coords words pieces f first
    → narrowed o p xhat plane (leaving_at reals) (next_behind_at kinds faces coords words pieces f) (2 * pieces) at w
    ≡ wedge_of o p xhat w (map (laid_of plane) (behind_at kinds faces coords words reals pieces f first))
unfolding behind_at
walk_is kinds faces coords words reals pieces f first plane o p xhat w at is_at =
    ap (λ (k : ℕ). narrowed o p xhat plane (leaving_at reals) (next_behind_at kinds faces coords words pieces f) (2 * pieces) k w) is_at

pub end_is : (reals : List Float) (plane : Plane) (o p xhat : Vec3) (w : Bounds) (e : ℕ) (d there : Vec3) (r : Bounds)
    → d ≡ leaving_at reals e → there ≡ laid_of plane d → r ≡ behind_of o p xhat w there → r ≡ behind_of o p xhat w (laid_of plane (leaving_at reals e))
end_is reals plane o p xhat w e d there r is-d is-there is-r = is-r ∙ ap (behind_of o p xhat w) (is-there ∙ ap (laid_of plane) is-d)

-- ---- across an edge
pub across_is : (er : List Float) (tw : List ℕ) (tr : List Float) (g h e i j : ℕ) (xh yg yh : Vec3)
    → xh ≡ unit_at er e → i ≡ local_at tw g e → yg ≡ normal_in tr g i → j ≡ local_at tw h e → yh ≡ normal_in tr h j → Across xh yg yh ≡ across_at er tw tr g h e
unfolding across_at
across_is er tw tr g h e i j xh yg yh is_x is-i is-g is-j is-h =
    let G : yg ≡ normal_in tr g (local_at tw g e) = is-g ∙ ap (normal_in tr g) is-i in
    let H : yh ≡ normal_in tr h (local_at tw h e) = is-h ∙ ap (normal_in tr h) is-j in
    λ t. Across (is_x t) (G t) (H t)

-- ---- the carriers
module _ (ew : List ℕ) (er : List Float) (tw : List ℕ) (tr : List Float) (kinds faces : List ℕ) (coords : List Float) (words : List ℕ) (reals : List Float) (pieces g : ℕ) where
  abbrev behind : ℕ → ℕ → List Vec3
  behind = behind_at kinds faces coords words reals pieces

  abbrev pair : ℕ → ℕ → List Vec3
  pair = pair_at ew er tw tr kinds faces coords words reals pieces g

  abbrev directions : ℕ → ℕ → ℕ → List Vec3
  directions = directions_at ew er tw tr kinds faces coords words reals pieces g

  module _ (first : ℕ) (o p xhat : Vec3) (w : Bounds) where
    own_is : (r : Bounds) → r ≡ wedge_of o p xhat w (map (laid_of Own) (behind g first)) → r ≡ wedge_of o p xhat w (behind g first)
    own_is r is-r = is-r ∙ ap (wedge_of o p xhat w) (own_plane (behind g first))

    module _ (h i : ℕ) (is-i : i ≡ side_to_at ew tw g h) where
      pub pair_none : i ≡ 3 → w ≡ wedge_of o p xhat w (pair h first)
      unfolding pair_at
      pair_none z = rw (eq-eqb (side_to_at ew tw g h) 3 (sym is-i ∙ z)) (wedge_none o p xhat w)

      pub pair_both : (i ≡ 3 → ⊥) → (e : EdgeId) → e ≡ record { 0 = side_in tw g i } → (plane : Plane) → plane ≡ across_at er tw tr g h e.0
          → (own r : Bounds) → own ≡ wedge_of o p xhat w (map (laid_of Own) (behind g first)) → r ≡ wedge_of o p xhat own (map (laid_of plane) (behind h first)) → r ≡ wedge_of o p xhat w (pair h first)
      unfolding pair_at
      pair_both ne e is-e plane is-plane own r is-own is-r =
          let E : e.0 ≡ side_in tw g (side_to_at ew tw g h) = (λ t. (is-e t).0) ∙ ap (side_in tw g) is-i in
          let P : plane ≡ across_at er tw tr g h (side_in tw g (side_to_at ew tw g h)) = is-plane ∙ ap (across_at er tw tr g h) E in
          let all : List Vec3 = behind g first ++ map (laid_of (across_at er tw tr g h (side_in tw g (side_to_at ew tw g h)))) (behind h first) in
          let d : r ≡ wedge_of o p xhat w all =
          is-r ∙ ((λ t. wedge_of o p xhat (own_is own is-own t) (map (laid_of (P t)) (behind h first))) ∙ wedge_both o p xhat w (behind g first) (map (laid_of (across_at er tw tr g h (side_in tw g (side_to_at ew tw g h)))) (behind h first))) in
          d ∙ ap (λ b. wedge_of o p xhat w (cond b [] all)) (sym (ne_eqb (side_to_at ew tw g h) 3 (λ z. ne (is-i ∙ z))))

    module _ (count h : ℕ) where
      pub wedge_one : count ≡ 1 → (r : Bounds) → r ≡ wedge_of o p xhat w (map (laid_of Own) (behind g first)) → r ≡ wedge_of o p xhat w (directions count h first)
      unfolding directions_at
      wedge_one z r is-r = rw (eq-eqb count 1 z) (own_is r is-r)

      pub wedge_two : (count ≡ 1 → ⊥) → count ≡ 2 → (r : Bounds) → r ≡ wedge_of o p xhat w (pair h first) → r ≡ wedge_of o p xhat w (directions count h first)
      unfolding directions_at
      wedge_two n z r is-r = rw (ne_eqb count 1 n, eq-eqb count 2 z) is-r

      pub wedge_more : (count ≡ 1 → ⊥) → (count ≡ 2 → ⊥) → w ≡ wedge_of o p xhat w (directions count h first)
      unfolding directions_at
      wedge_more n m = rw (ne_eqb count 1 n, ne_eqb count 2 m) (wedge_none o p xhat w)

  pub bounds_is : (v : List Float) (k : ℕ) (p : Vec3) (count h first : ℕ) (e : EdgeId) (ab : EdgeEnds) (o xhat : Vec3) (l : Float) (whole r : Bounds)
      → e ≡ record { 0 = side_in tw g k } → ab ≡ ends_at ew e.0 → o ≡ vertex_at v ab.a.0 → xhat ≡ unit_at er e.0 → l ≡ length_at er e.0 → whole ≡ whole_of l
      → r ≡ wedge_of o p xhat whole (directions count h first) → r ≡ bounds_at v ew er tw tr kinds faces coords words reals pieces g k p count h first
  unfolding bounds_at
  bounds_is v k p count h first e ab o xhat l whole r is-e is-ab is-o is_x is-l is-w is-r =
      let O : o ≡ origin_at v ew e.0 = is-o ∙ (λ t. vertex_at v (is-ab t).a.0) in
      let W : whole ≡ whole_of (length_at er e.0) = is-w ∙ (λ t. whole_of (is-l t)) in
      is-r ∙ ((λ t. wedge_of (O t) p (is_x t) (W t) (directions count h first))
      ∙ (λ t. let z = (is-e t).0 in wedge_of (origin_at v ew z) p (unit_at er z) (whole_of (length_at er z)) (directions count h first)))
