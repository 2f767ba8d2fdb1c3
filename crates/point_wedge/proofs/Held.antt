-- Where the buffers hold a mesh's topology and the table of its pieces' ends, the part of a side is the Rust's: bounds_held. Assumes nothing.
use Prim.Native.Nat.{ℕ, suc, ◌+◌, ◌*◌, ◌/◌, ◌<◌, ◌≤◌}
use mathlib.Core.Path.{◌≡◌, refl, ap, ◌∙◌}
use mathlib.Core.Bool.{Bool, true, false, cond}
use mathlib.Core.List.{List, [], ◌∷◌, ◌++◌, map}
use mathlib.Core.Logic.{⊎_elim}
use native.Mathlib.Omega.{arith}
use borrow.Author.Tests.{ne_eqb, eqb-false}
use lib.Dec.{eqb}
use lib.Ieee.{Float}
use lib.ListN.{length}
use Rattle.layout.specs.Layout.{reals_per_piece}
use Rattle.vec3.specs.declared.Vec3.{Vec3}
use Rattle.topology.specs.Edges.{edges, tri_edge, local}
use Rattle.topology.specs.Frames.{xhat, yhat}
use Rattle.topology.proofs.Find.{either}
use Rattle.topology.proofs.Edges.{tri_edge_there}
use Rattle.topology.proofs.Checked.{inside}
use Rattle.topology.proofs.Sides.{local_below}
use Rattle.segments_behind.specs.of_frames.Stored.{length_at, unit_at, origin_at}
use Rattle.segments_behind.proofs.laws_of_frames.Held.{origin_held}
use Rattle.carriers.specs.of_mesh_readers.Held.{HoldsMesh}
use Rattle.carriers.specs.of_mesh_readers.Readers.{side_in, normal_in, local_at}
use Rattle.carriers.specs.of_mesh_readers.Sides.{has_face, side_to}
use Rattle.carriers.proofs.laws_of_mesh_readers.Held.{side_held, local_held, normal_held}
use Rattle.carriers.proofs.laws_of_mesh_readers.Sides.{side_to_held}
use Rattle.carriers.specs.of_source_windows.Wedge.{whole_of, wedge_of}
use Rattle.carriers.specs.Carrier.{other_carrier}
use Rattle.segments_behind.specs.of_piece_ends.Ends.{ends_with_bits}
use Rattle.segments_behind.specs.of_piece_ends.Table.{link_to}
use Rattle.segments_behind.specs.of_piece_ends.Walk.{HoldsTable}
use Rattle.segments_behind.specs.of_piece_ends.Directions.{piece_reals_of}
use Rattle.segments_behind.specs.Behind.{behind_in}
use Rattle.segments_behind.proofs.Held.{behind_held}
use Rattle.point_wedge.specs.declared.Plane.{Plane}
use Rattle.point_wedge.specs.declared.Plane.TheVariants.{Across}
use Rattle.point_wedge.specs.Wedge.{pair_across, directions_in, bounds_in, laid_of, across_at, behind_at, pair_at, directions_at, bounds_at}

at_most_three : (a b c : Bool) → cond a 0 (cond b 1 (cond c 2 3)) ≤ 3
at_most_three true b c = omega arith
at_most_three false true c = omega arith
at_most_three false false true = omega arith
at_most_three false false false = omega arith

side_to_three : (triangles : List ℕ) (g h : ℕ) → side_to triangles g h ≤ 3
unfolding side_to
side_to_three triangles g h = at_most_three (has_face triangles (tri_edge triangles (3 * g)) h) (has_face triangles (tri_edge triangles (3 * g + 1)) h) (has_face triangles (tri_edge triangles (3 * g + 2)) h)

module _ (v : List Float) (triangles : List ℕ) (n : ℕ) (edge_words : List ℕ) (edge_reals : List Float) (triangle_words : List ℕ) (triangleReals : List Float)
    (mesh : HoldsMesh v triangles n edge_words edge_reals triangle_words triangleReals) (kinds faces : List ℕ) (coords : List Float) (words : List ℕ) (held : HoldsTable kinds coords words) (m : ℕ) (room : reals_per_piece * length kinds ≤ m)
    (p : Vec3) (first : ℕ) (is_first : first ≡ link_to (ends_with_bits kinds coords p)) where
  abbrev behind : ℕ → List Vec3
  behind f = behind_at kinds faces coords words (piece_reals_of kinds coords m) (length kinds) f first

  behind_is : (f : ℕ) → behind f ≡ behind_in kinds faces coords f p
  unfolding behind_at
  behind_is f = behind_held kinds faces coords words held f p first is_first m room

  normal_is : (f : ℕ) → f < length triangles / 3 → (e : ℕ) → normal_in triangleReals f (local_at triangle_words f e) ≡ yhat v triangles (3 * f + local triangles f e)
  normal_is f l e =
      let last : 3 * f + 2 < length triangles = inside triangles n mesh.valid f l in
      ap (normal_in triangleReals f) (local_held triangles triangle_words mesh.sides f last e)
      ∙ normal_held v triangles triangleReals mesh.normals f (local triangles f e) (omega (arith, last, local_below triangles f e))

  module _ (g : ℕ) (l : g < length triangles / 3) where
    last : 3 * g + 2 < length triangles
    last = inside triangles n mesh.valid g l

    there : (k : ℕ) → k < 3 → tri_edge triangles (3 * g + k) < length (edges triangles)
    there k q = tri_edge_there triangles (3 * g + k) (omega (arith, last))

    side_is : (k : ℕ) → k < 3 → side_in triangle_words g k ≡ tri_edge triangles (3 * g + k)
    side_is k q = side_held triangles triangle_words mesh.sides g last k q

    module _ (h : ℕ) (m' : h < length triangles / 3) where
      abbrev plane : ℕ → Plane
      plane e = Across (xhat v triangles e) (yhat v triangles (3 * g + local triangles g e)) (yhat v triangles (3 * h + local triangles h e))

      across_held : (k : ℕ) → k < 3 → across_at edge_reals triangle_words triangleReals g h (side_in triangle_words g k) ≡ plane (tri_edge triangles (3 * g + k))
      unfolding across_at
      across_held k q =
          let e : ℕ = tri_edge triangles (3 * g + k) in
          ap (across_at edge_reals triangle_words triangleReals g h) (side_is k q) ∙ (λ t. Across (mesh.lengths.unit_is e (there k q) t) (normal_is g l e t) (normal_is h m' e t))

      pair_from : (i : ℕ) → i ≤ 3
          → cond (eqb i 3) [] (behind g ++ map (laid_of (across_at edge_reals triangle_words triangleReals g h (side_in triangle_words g i))) (behind h)) ≡ pair_across v triangles kinds faces coords g h i p
      unfolding pair_across laid_of
      pair_from i q = ⊎_elim
          (λ z. rw z refl)
          (λ z. rw z (λ t. behind_is g t ++ map (laid_of (across_held i (omega (arith, eqb-false i 3 z)) t)) (behind_is h t)))
          (either (eqb i 3))

      pair_held : pair_at edge_words edge_reals triangle_words triangleReals kinds faces coords words (piece_reals_of kinds coords m) (length kinds) g h first ≡ pair_across v triangles kinds faces coords g h (side_to triangles g h) p
      unfolding pair_at
      pair_held =
          ap (λ (i : ℕ). cond (eqb i 3) [] (behind g ++ map (laid_of (across_at edge_reals triangle_words triangleReals g h (side_in triangle_words g i))) (behind h)))
          (side_to_held triangles edge_words triangle_words mesh.faces mesh.sides g h last)
          ∙ pair_from (side_to triangles g h) (side_to_three triangles g h)

    -- h is the carrier that is not g, where there are two, and it is a face of the mesh
    abbrev pub IsOther : List ℕ → ℕ → Type 0
    IsOther carriers h = (a b : ℕ) → carriers ≡ a ∷ (b ∷ []) → (h ≡ other_carrier g a b) × (h < length triangles / 3)

    abbrev directions : ℕ → ℕ → List Vec3
    directions count h = directions_at edge_words edge_reals triangle_words triangleReals kinds faces coords words (piece_reals_of kinds coords m) (length kinds) g count h first

    pub directions_held : (carriers : List ℕ) (h : ℕ) → IsOther carriers h → directions (length carriers) h ≡ directions_in v triangles kinds faces coords g carriers p
    unfolding directions_at directions_in
    directions_held [] h is = refl
    directions_held (a ∷ []) h is = behind_is g
    directions_held (a ∷ (b ∷ [])) h is =
        let q = is a b refl in
        pair_held h q.1 ∙ ap (λ (x : ℕ). pair_across v triangles kinds faces coords g x (side_to triangles g x) p) q.0
    directions_held (a ∷ (b ∷ (c ∷ cs))) h is = rw (ne_eqb (suc (suc (suc (length cs)))) 1 (λ z. omega arith), ne_eqb (suc (suc (suc (length cs)))) 2 (λ z. omega arith)) refl

    pub bounds_held : (k : ℕ) → k < 3 → (carriers : List ℕ) (h : ℕ) → IsOther carriers h
        → bounds_at v edge_words edge_reals triangle_words triangleReals kinds faces coords words (piece_reals_of kinds coords m) (length kinds) g k p (length carriers) h first
        ≡ bounds_in v triangles kinds faces coords g k p carriers
    unfolding bounds_at bounds_in
    bounds_held k q carriers h is =
        let e : ℕ = tri_edge triangles (3 * g + k) in
        (λ t. let z = side_is k q t in wedge_of (origin_at v edge_words z) p (unit_at edge_reals z) (whole_of (length_at edge_reals z)) (directions (length carriers) h))
        ∙ (λ t. wedge_of (origin_held v triangles edge_words mesh.ends e (there k q) t) p (mesh.lengths.unit_is e (there k q) t) (whole_of (mesh.lengths.length_is e (there k q) t)) (directions_held carriers h is t))
