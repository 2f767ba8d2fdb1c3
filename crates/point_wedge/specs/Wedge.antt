-- The wedge of a source point: the Rust's `wedge_in` of `source_point`, and the part of a side that the wedge leaves. Definitions only.
-- First as the Rust has it, of a mesh and its pieces; then as the buffers are read.
use Rattle.std.specs.Prelude.{ℕ, ◌+◌, ◌*◌, cond, List, [], ◌∷◌, ◌++◌, map, eqb, Float}
use Rattle.vec3.specs.declared.Vec3.{Vec3}
use Rattle.topology.specs.Edges.{tri_edge, local}
use Rattle.topology.specs.Frames.{origin, len, xhat, yhat}
use Rattle.segments_behind.specs.of_frames.Stored.{length_at, unit_at, origin_at}
use Rattle.carriers.specs.of_mesh_readers.Readers.{side_in, normal_in, local_at, side_to_at}
use Rattle.carriers.specs.of_mesh_readers.Sides.{side_to}
use Rattle.carriers.specs.of_source_windows.declared.Bounds.{Bounds}
use Rattle.carriers.specs.of_source_windows.Wedge.{unfolded_of, whole_of, wedge_of}
use Rattle.carriers.specs.Carrier.{other_carrier}
use Rattle.segments_behind.specs.of_piece_ends.Walk.{follow}
use Rattle.segments_behind.specs.Behind.{behind_in, first_behind_at, next_behind_at, leaving_at}
use Rattle.point_wedge.specs.declared.Plane.{Plane}
use Rattle.point_wedge.specs.declared.Plane.TheVariants.{Own, Across}

-- the Rust's (b0, b1) after `for d in &wedge`, on the edge o + t xhat of length l
abbrev pub wedge_bounds : Vec3 → Vec3 → Vec3 → Float → List Vec3 → Bounds
wedge_bounds o p xhat l dirs = wedge_of o p xhat (whole_of l) dirs

-- ---- of a mesh and its pieces
module _ (v : List Float) (triangles kinds faces : List ℕ) (coords : List Float) where
  -- `own`, and the directions of h unfolded across side i of g into g's plane; none at all where i is 3, for no side
  unfoldable pub pair_across : ℕ → ℕ → ℕ → Vec3 → List Vec3
  pair_across g h i p =
      let e : ℕ = tri_edge triangles (3 * g + i) in
      let xh : Vec3 = xhat v triangles e in
      let yg : Vec3 = yhat v triangles (3 * g + local triangles g e) in
      let yh : Vec3 = yhat v triangles (3 * h + local triangles h e) in
      cond (eqb i 3) [] (behind_in kinds faces coords g p ++ map (λ (d : Vec3). unfolded_of d xh yg yh) (behind_in kinds faces coords h p))

  -- the Rust's `wedge_in(g)`, from the list of carriers
  unfoldable pub directions_in : ℕ → List ℕ → Vec3 → List Vec3
  directions_in g [] p = []
  directions_in g (a ∷ []) p = behind_in kinds faces coords g p
  directions_in g (a ∷ (b ∷ [])) p = pair_across g (other_carrier g a b) (side_to triangles g (other_carrier g a b)) p
  directions_in g (a ∷ (b ∷ (c ∷ cs))) p = []

  -- what is left of side k of face g
  unfoldable pub bounds_in : ℕ → ℕ → Vec3 → List ℕ → Bounds
  bounds_in g k p carriers =
      let e : ℕ = tri_edge triangles (3 * g + k) in
      wedge_bounds (origin v triangles e) p (xhat v triangles e) (len v triangles e) (directions_in g carriers p)

-- ---- as the buffers are read
-- a direction laid into a plane
unfoldable pub laid_of : Plane → Vec3 → Vec3
laid_of Own d = d
laid_of (Across xh yg yh) d = unfolded_of d xh yg yh

unfoldable pub across_at : List Float → List ℕ → List Float → ℕ → ℕ → ℕ → Plane
across_at edge_reals triangle_words triangleReals g h e =
    Across (unit_at edge_reals e) (normal_in triangleReals g (local_at triangle_words g e)) (normal_in triangleReals h (local_at triangle_words h e))

-- the directions of face f at a point, along the table's links from the first end of its bits on
unfoldable pub behind_at : List ℕ → List ℕ → List Float → List ℕ → List Float → ℕ → ℕ → ℕ → List Vec3
behind_at kinds faces coords words reals pieces f first =
    map (leaving_at reals) (follow (next_behind_at kinds faces coords words pieces f) (2 * pieces) (first_behind_at kinds faces coords words pieces f first))

module _ (edge_words : List ℕ) (edge_reals : List Float) (triangle_words : List ℕ) (triangleReals : List Float)
    (kinds faces : List ℕ) (coords : List Float) (words : List ℕ) (reals : List Float) (pieces g : ℕ) where
  abbrev at : ℕ → ℕ → List Vec3
  at = behind_at kinds faces coords words reals pieces

  unfoldable pub pair_at : ℕ → ℕ → List Vec3
  pair_at h first =
      let i : ℕ = side_to_at edge_words triangle_words g h in
      cond (eqb i 3) [] (at g first ++ map (laid_of (across_at edge_reals triangle_words triangleReals g h (side_in triangle_words g i))) (at h first))

  -- from the number of carriers, and the one that is not g where there are two
  unfoldable pub directions_at : ℕ → ℕ → ℕ → List Vec3
  directions_at count h first = cond (eqb count 1) (at g first) (cond (eqb count 2) (pair_at h first) [])

unfoldable pub bounds_at : List Float → List ℕ → List Float → List ℕ → List Float → List ℕ → List ℕ → List Float → List ℕ → List Float → ℕ → ℕ → ℕ → Vec3 → ℕ → ℕ → ℕ → Bounds
bounds_at v edge_words edge_reals triangle_words triangleReals kinds faces coords words reals pieces g k p count h first =
    let e : ℕ = side_in triangle_words g k in
    wedge_bounds (origin_at v edge_words e) p (unit_at edge_reals e) (length_at edge_reals e)
    (directions_at edge_words edge_reals triangle_words triangleReals kinds faces coords words reals pieces g count h first)
