-- Where the buffers hold a mesh's topology, the carrier is the topology's. Assumes nothing.
--     carrier_held (its faces are the Rust's list), carrier_there (it is a face, an edge or a vertex of the mesh), count_held (their number is the list's length),
--     nearest_there (a face's nearest vertex is one of the mesh's)
use Prim.Native.Nat.{ℕ, ◌+◌, ◌*◌, ◌/◌, ◌<◌}
use mathlib.Core.Path.{◌≡◌, refl, sym, ap, subst, ◌∙◌}
use mathlib.Core.Bool.{Bool, true, false, cond}
use mathlib.Core.List.{List, [], ◌∷◌}
use native.Mathlib.Omega.{arith}
use lib.Ieee.{Float}
use lib.ListN.{length}
use Rattle.vec3.specs.declared.Vec3.{Vec3}
use Rattle.float64.specs.TotalOrder.{total_less}
use Rattle.job_checks.specs.Sound.{ValidTriangles}
use Rattle.topology.specs.Edges.{edges, tri_edge, face, shared_vertex, vertex_faces}
use Rattle.topology.specs.Frames.{len, coords_y}
use Rattle.topology.proofs.Edges.{tri_edge_there}
use Rattle.topology.proofs.Checked.{inside}
use Rattle.topology.proofs.Sides.{two_sides_share}
use Rattle.frames.specs.Stored.{length_at}
use Rattle.frames.specs.Held.{HoldsEdges, HoldsFaces, HoldsSides, HoldsLengths, HoldsNormals}
use Rattle.mesh_readers.specs.Held.{HoldsMesh, HoldsRound}
use Rattle.mesh_readers.specs.Readers.{side_in, coords_at, shared_at}
use Rattle.mesh_readers.proofs.Held.{side_held, shared_held, coords_held, degree_held}
use Rattle.source_windows.specs.Wedge.{lies_on}
use Rattle.carriers.specs.declared.CarrierSimplex.{CarrierSimplex}
use Rattle.carriers.specs.declared.CarrierSimplex.TheVariants.{Face, Edge, Vertex}
use Rattle.carriers.specs.Carrier.{filtered, present, on_side, faces_on, carrier_of, faces_of, InMesh, on_side_at, simplex_of, carrier_at, carrier_count_at}
use Rattle.carriers.specs.Nearest.{distance_to, nearer_of, nearest_at}

module _ (triangles : List ℕ) (n : ℕ) (s : ValidTriangles triangles n) (edge_words triangle_words : List ℕ) (ends : HoldsEdges triangles edge_words) (sides : HoldsSides triangles triangle_words) (f : ℕ) (l : f < length triangles / 3) where
  last : 3 * f + 2 < length triangles
  last = inside triangles n s f l

  edge_there : (k : ℕ) → k < 3 → tri_edge triangles (3 * f + k) < length (edges triangles)
  edge_there k q = tri_edge_there triangles (3 * f + k) (omega (arith, last))

  side_is : (k : ℕ) → k < 3 → side_in triangle_words f k ≡ tri_edge triangles (3 * f + k)
  side_is k q = side_held triangles triangle_words sides f last k q

  shared_is : (i j : ℕ) → i < 3 → j < 3 → shared_at edge_words (side_in triangle_words f i) (side_in triangle_words f j) ≡ shared_vertex triangles (tri_edge triangles (3 * f + i)) (tri_edge triangles (3 * f + j))
  shared_is i j a b =
      (λ t. shared_at edge_words (side_is i a t) (side_is j b t))
      ∙ shared_held triangles edge_words ends (tri_edge triangles (3 * f + i)) (tri_edge triangles (3 * f + j)) (edge_there i a) (edge_there j b)

  -- ---- the faces
  one_edge : (k : ℕ) (q : k < 3) → present (face triangles (side_in triangle_words f k) 0 ∷ (face triangles (side_in triangle_words f k) 1 ∷ [])) ≡ present (face triangles (tri_edge triangles (3 * f + k)) 0 ∷ (face triangles (tri_edge triangles (3 * f + k)) 1 ∷ []))
  one_edge k q t = present (face triangles (side_is k q t) 0 ∷ (face triangles (side_is k q t) 1 ∷ []))

  two_edges : (i j : ℕ) (a : i < 3) (b : j < 3) → vertex_faces triangles (shared_at edge_words (side_in triangle_words f i) (side_in triangle_words f j)) ≡ vertex_faces triangles (shared_vertex triangles (tri_edge triangles (3 * f + i)) (tri_edge triangles (3 * f + j)))
  two_edges i j a b t = vertex_faces triangles (shared_is i j a b t)

  simplex_held : (a b c : Bool) → faces_of triangles f (simplex_of edge_words triangle_words f (filtered a b c)) ≡ faces_on triangles f (filtered a b c)
  unfolding filtered simplex_of faces_of faces_on
  simplex_held true true c = two_edges 0 1 (omega arith) (omega arith)
  simplex_held true false true = two_edges 0 2 (omega arith) (omega arith)
  simplex_held true false false = one_edge 0 (omega arith)
  simplex_held false true true = two_edges 1 2 (omega arith) (omega arith)
  simplex_held false true false = one_edge 1 (omega arith)
  simplex_held false false true = one_edge 2 (omega arith)
  simplex_held false false false = refl

  -- ---- it is the mesh's
  one_there : (k : ℕ) → k < 3 → side_in triangle_words f k < length (edges triangles)
  one_there k q = subst (λ (e : ℕ). e < length (edges triangles)) (sym (side_is k q)) (edge_there k q)

  two_there : (i j : ℕ) → i < 3 → j < 3 → (i ≡ j → ⊥) → shared_at edge_words (side_in triangle_words f i) (side_in triangle_words f j) < n
  two_there i j a b ne = subst (λ (k : ℕ). k < n) (sym (shared_is i j a b)) (two_sides_share triangles n s f i j l a b ne).there

  simplex_there : (a b c : Bool) → InMesh triangles n f (simplex_of edge_words triangle_words f (filtered a b c))
  unfolding filtered simplex_of InMesh
  simplex_there true true c = two_there 0 1 (omega arith) (omega arith) (λ q. omega arith)
  simplex_there true false true = two_there 0 2 (omega arith) (omega arith) (λ q. omega arith)
  simplex_there true false false = one_there 0 (omega arith)
  simplex_there false true true = two_there 1 2 (omega arith) (omega arith) (λ q. omega arith)
  simplex_there false true false = one_there 1 (omega arith)
  simplex_there false false true = one_there 2 (omega arith)
  simplex_there false false false = l

  module _ (v edge_reals triangleReals : List Float) where
    pub carrier_there : (p : Vec3) → InMesh triangles n f (carrier_at v edge_words edge_reals triangle_words triangleReals f p)
    unfolding carrier_at
    carrier_there p =
        let on : ℕ → Bool = on_side_at v edge_words edge_reals triangle_words triangleReals f p in
        simplex_there (on 0) (on 1) (on 2)

    module _ (long : HoldsLengths v triangles edge_reals) (normals : HoldsNormals v triangles triangleReals) where
      on_side_held : (p : Vec3) (k : ℕ) → k < 3 → on_side_at v edge_words edge_reals triangle_words triangleReals f p k ≡ on_side v triangles f p k
      unfolding on_side_at on_side
      on_side_held p k q =
          let e : ℕ = tri_edge triangles (3 * f + k) in
          let c : (coords_at v edge_words edge_reals triangle_words triangleReals e f p).y ≡ coords_y v triangles e f p =
          λ i. (coords_held v triangles edge_words edge_reals triangle_words triangleReals ends long sides normals e f (edge_there k q) last p i).y in
          let d : length_at edge_reals e ≡ len v triangles e = long.length_is e (edge_there k q) in
          (λ i. lies_on (coords_at v edge_words edge_reals triangle_words triangleReals (side_is k q i) f p).y (length_at edge_reals (side_is k q i))) ∙ (λ i. lies_on (c i) (d i))

      pub carrier_held : (p : Vec3) → faces_of triangles f (carrier_at v edge_words edge_reals triangle_words triangleReals f p) ≡ carrier_of v triangles f p
      unfolding carrier_at carrier_of
      carrier_held p =
          (λ i. faces_of triangles f (simplex_of edge_words triangle_words f (filtered (on_side_held p 0 (omega arith) i) (on_side_held p 1 (omega arith) i) (on_side_held p 2 (omega arith) i))))
          ∙ simplex_held (on_side v triangles f p 0) (on_side v triangles f p 1) (on_side v triangles f p 2)

-- ---- how many
module _ (triangles : List ℕ) (n : ℕ) (edge_words vertex_words round : List ℕ) (faces : HoldsFaces triangles edge_words) (held : HoldsRound triangles n vertex_words round) (f : ℕ) where
  pub count_is : (c : CarrierSimplex) → InMesh triangles n f c → carrier_count_at edge_words vertex_words c ≡ length (faces_of triangles f c)
  unfolding InMesh carrier_count_at faces_of
  count_is Face q = refl
  count_is (Edge e) q = λ i. length (present (faces.first e.0 q i ∷ (faces.second e.0 q i ∷ [])))
  count_is (Vertex k) q = degree_held triangles n vertex_words round held k.0 q

pub count_held : (v : List Float) (triangles : List ℕ) (n : ℕ) (edge_words : List ℕ) (edge_reals : List Float) (triangle_words : List ℕ) (triangleReals : List Float) (vertex_words round : List ℕ)
    → HoldsMesh v triangles n edge_words edge_reals triangle_words triangleReals → HoldsRound triangles n vertex_words round → (f : ℕ) → f < length triangles / 3 → (p : Vec3)
    → carrier_count_at edge_words vertex_words (carrier_at v edge_words edge_reals triangle_words triangleReals f p) ≡ length (carrier_of v triangles f p)
count_held v triangles n edge_words edge_reals triangle_words triangleReals vertex_words round m held f l p =
    count_is triangles n edge_words vertex_words round m.faces held f (carrier_at v edge_words edge_reals triangle_words triangleReals f p) (carrier_there triangles n m.valid edge_words triangle_words m.ends m.sides f l v edge_reals triangleReals p)
    ∙ ap length (carrier_held triangles n m.valid edge_words triangle_words m.ends m.sides f l v edge_reals triangleReals m.lengths m.normals p)

-- ---- the nearest vertex
either_below : (t : Bool) (a b n : ℕ) → a < n → b < n → cond t b a < n
either_below true a b n x y = y
either_below false a b n x y = x

nearer_below : (v : List Float) (p : Vec3) (a b n : ℕ) → a < n → b < n → nearer_of v p a b < n
unfolding nearer_of
nearer_below v p a b n x y = either_below (total_less (distance_to v p b) (distance_to v p a)) a b n x y

pub nearest_there : (v : List Float) (triangles : List ℕ) (n : ℕ) → ValidTriangles triangles n → (f : ℕ) → f < length triangles / 3 → (p : Vec3) → nearest_at v triangles f p < n
unfolding nearest_at
nearest_there v triangles n s f l p =
    let last : 3 * f + 2 < length triangles = inside triangles n s f l in
    nearer_below v p _ _ n (nearer_below v p _ _ n (s.there (3 * f + 0) (omega arith)) (s.there (3 * f + 1) (omega arith))) (s.there (3 * f + 2) last)
