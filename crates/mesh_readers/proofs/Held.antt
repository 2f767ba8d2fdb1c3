-- Where the buffers hold a mesh's topology, the readers' answers are the topology's. Assumes nothing.
--     of an edge      edge_held, ends_held, trim_edge_held, faces_held, other_held, shared_held; its length and unit vector are the fields of `HoldsLengths`
--     of a face       side_held, normal_held, local_held, third_held, between_held, coords_held
--     of a vertex     range_held, degree_held, round_held
use Prim.Native.Nat.{ℕ, ◌+◌, ◌*◌, ◌/◌, ◌%◌, ◌<◌}
use mathlib.Core.Path.{◌≡◌, ap, ◌∙◌}
use mathlib.Core.Bool.{cond}
use mathlib.Core.List.{List}
use native.Mathlib.Omega.{arith}
use lib.Dec.{eqb}
use lib.ListN.{length, get_or}
use lib.Ieee.{Float, nan}
use Rattle.layout.specs.Layout.{vertices_per_triangle, words_per_triangle, reals_per_triangle, reals_per_normal}
use Rattle.vec3.specs.declared.Vec3.{Vec3}
use Rattle.vec3.specs.Vec.{sub_of, dot_of}
use Rattle.topology.specs.Edges.{no_edge, off_ends, joins, edges, tri_edge, face, other, local, third, shared_vertex, edge_between, vertex_faces}
use Rattle.topology.specs.Frames.{origin, len, yhat, coords_x, coords_y}
use Rattle.topology.proofs.Edges.{tri_edge_there}
use Rattle.topology.proofs.Sides.{local_below}
use Rattle.vertex_faces.specs.Ranges.{start_of, end_of}
use Rattle.frames.specs.Stored.{origin_at}
use Rattle.frames.specs.Held.{HoldsEdges, HoldsFaces, HoldsSides, HoldsLengths, HoldsNormals}
use Rattle.frames.proofs.Held.{origin_held}
use Rattle.mesh_readers.specs.Held.{HoldsRound}
use Rattle.mesh_readers.specs.Readers.{edge_at, ends_at, trim_edge_at, faces_at, other_at, shared_at, side_in, normal_in, local_at, third_at, edge_between_at, coords_at, range_at, degree_at, round_at}

-- ---- an edge
module _ (triangles edge_words : List ℕ) where
  module _ (held : HoldsEdges triangles edge_words) where
    pub edge_held : (e : ℕ) → e < length (edges triangles) → edge_at edge_words e ≡ get_or (edges triangles) e no_edge
    edge_held e l i = record { low = held.low e l i; high = held.high e l i }

    pub ends_held : (e : ℕ) → e < length (edges triangles) → ends_at edge_words e ≡ record { a = record { 0 = (get_or (edges triangles) e no_edge).low }; b = record { 0 = (get_or (edges triangles) e no_edge).high } }
    ends_held e l i = record { a = record { 0 = held.low e l i }; b = record { 0 = held.high e l i } }

    pub trim_edge_held : (v edge_reals : List Float) → HoldsLengths v triangles edge_reals → (e : ℕ) → e < length (edges triangles)
        → trim_edge_at edge_words edge_reals e ≡ record { id = record { 0 = e }; len = len v triangles e; a = record { 0 = (get_or (edges triangles) e no_edge).low }; b = record { 0 = (get_or (edges triangles) e no_edge).high } }
    trim_edge_held v edge_reals long e l i = record { id = record { 0 = e }; len = long.length_is e l i; a = record { 0 = held.low e l i }; b = record { 0 = held.high e l i } }

    pub shared_held : (e o : ℕ) → e < length (edges triangles) → o < length (edges triangles) → shared_at edge_words e o ≡ shared_vertex triangles e o
    unfolding shared_at shared_vertex
    shared_held e o l m i = cond (off_ends (held.low e l i) (edge_held o m i)) (held.high e l i) (held.low e l i)

    pub third_held : (e f : ℕ) → e < length (edges triangles) → third_at triangles edge_words e f ≡ third triangles e f
    unfolding third_at third
    third_held e f l =
        let z : 3 * f + 0 ≡ 3 * f = omega arith in
        λ i. cond (off_ends (get_or triangles (z i) 0) (edge_held e l i)) (get_or triangles (z i) 0)
        (cond (off_ends (get_or triangles (vertices_per_triangle * f + 1) 0) (edge_held e l i)) (get_or triangles (vertices_per_triangle * f + 1) 0)
        (get_or triangles (vertices_per_triangle * f + 2) 0))

  module _ (held : HoldsFaces triangles edge_words) (e : ℕ) (l : e < length (edges triangles)) where
    pub faces_held : faces_at edge_words e ≡ record { first = record { 0 = face triangles e 0 }; second = record { 0 = face triangles e 1 } }
    faces_held i = record { first = record { 0 = held.first e l i }; second = record { 0 = held.second e l i } }

    pub other_held : (f : ℕ) → other_at edge_words e f ≡ other triangles e f
    unfolding other_at other
    other_held f i = cond (eqb (held.first e l i) f) (held.second e l i) (held.first e l i)

-- ---- a face
module _ (triangles triangle_words : List ℕ) (sides : HoldsSides triangles triangle_words) (f : ℕ) (inside : 3 * f + 2 < length triangles) where
  pub side_held : (k : ℕ) → k < 3 → side_in triangle_words f k ≡ tri_edge triangles (3 * f + k)
  side_held k l =
      let q : words_per_triangle * f + k ≡ words_per_triangle * ((3 * f + k) / 3) + (3 * f + k) % 3 = omega arith in
      ap (λ (i : ℕ). get_or triangle_words i 0) q ∙ sides (3 * f + k) (omega arith)

  pub side_first : side_in triangle_words f 0 ≡ tri_edge triangles (3 * f)
  side_first = let z : 3 * f + 0 ≡ 3 * f = omega arith in side_held 0 (omega arith) ∙ ap (tri_edge triangles) z

  pub local_held : (e : ℕ) → local_at triangle_words f e ≡ local triangles f e
  unfolding local_at local
  local_held e i = cond (eqb (side_first i) e) 0 (cond (eqb (side_held 1 (omega arith) i) e) 1 2)

  pub between_held : (edge_words : List ℕ) → HoldsEdges triangles edge_words → (a b : ℕ) → edge_between_at edge_words triangle_words f a b ≡ edge_between triangles f a b
  unfolding edge_between_at edge_between
  between_held edge_words held a b =
      let first : edge_at edge_words (side_in triangle_words f 0) ≡ get_or (edges triangles) (tri_edge triangles (3 * f)) no_edge =
      ap (edge_at edge_words) side_first ∙ edge_held triangles edge_words held (tri_edge triangles (3 * f)) (tri_edge_there triangles (3 * f) (omega arith)) in
      let second : edge_at edge_words (side_in triangle_words f 1) ≡ get_or (edges triangles) (tri_edge triangles (3 * f + 1)) no_edge =
      ap (edge_at edge_words) (side_held 1 (omega arith)) ∙ edge_held triangles edge_words held (tri_edge triangles (3 * f + 1)) (tri_edge_there triangles (3 * f + 1) (omega arith)) in
      λ i. cond (joins a b (first i)) (side_first i) (cond (joins a b (second i)) (side_held 1 (omega arith) i) (side_held 2 (omega arith) i))

pub normal_held : (v : List Float) (triangles : List ℕ) (triangleReals : List Float) → HoldsNormals v triangles triangleReals → (f k : ℕ) → 3 * f + k < length triangles → normal_in triangleReals f k ≡ yhat v triangles (3 * f + k)
normal_held v triangles triangleReals normals f k l =
    let a : reals_per_triangle * f + reals_per_normal * k ≡ reals_per_normal * (3 * f + k) + 0 = omega arith in
    let b : reals_per_triangle * f + reals_per_normal * k + 1 ≡ reals_per_normal * (3 * f + k) + 1 = omega arith in
    let c : reals_per_triangle * f + reals_per_normal * k + 2 ≡ reals_per_normal * (3 * f + k) + 2 = omega arith in
    (λ i. record { x = get_or triangleReals (a i) nan; y = get_or triangleReals (b i) nan; z = get_or triangleReals (c i) nan }) ∙ normals (3 * f + k) l

pub coords_held : (v : List Float) (triangles edge_words : List ℕ) (edge_reals : List Float) (triangle_words : List ℕ) (triangleReals : List Float)
    → HoldsEdges triangles edge_words → HoldsLengths v triangles edge_reals → HoldsSides triangles triangle_words → HoldsNormals v triangles triangleReals
    → (e f : ℕ) → e < length (edges triangles) → 3 * f + 2 < length triangles → (p : Vec3)
    → coords_at v edge_words edge_reals triangle_words triangleReals e f p ≡ record { x = coords_x v triangles e p; y = coords_y v triangles e f p }
unfolding coords_at coords_x coords_y
coords_held v triangles edge_words edge_reals triangle_words triangleReals held long sides normals e f l m p =
    let o : origin_at v edge_words e ≡ origin v triangles e = origin_held v triangles edge_words held e l in
    let k : local_at triangle_words f e ≡ local triangles f e = local_held triangles triangle_words sides f m e in
    let n : normal_in triangleReals f (local_at triangle_words f e) ≡ yhat v triangles (3 * f + local triangles f e) =
    ap (normal_in triangleReals f) k ∙ normal_held v triangles triangleReals normals f (local triangles f e) (omega (arith, local_below triangles f e)) in
    λ i. record { x = dot_of (sub_of p (o i)) (long.unit_is e l i); y = dot_of (sub_of p (o i)) (n i) }

-- ---- a vertex
module _ (triangles : List ℕ) (n : ℕ) (vertex_words round : List ℕ) (held : HoldsRound triangles n vertex_words round) (k : ℕ) (l : k < n) where
  pub range_held : range_at vertex_words k ≡ record { start = start_of triangles k; end = end_of triangles k }
  range_held i = record { start = held.start k l i; end = held.end k l i }

  pub degree_held : degree_at vertex_words k ≡ length (vertex_faces triangles k)
  unfolding end_of
  degree_held = omega (arith, held.start k l, held.end k l)

  pub round_held : (i : ℕ) → i < length (vertex_faces triangles k) → round_at round (start_of triangles k + i) ≡ get_or (vertex_faces triangles k) i 0
  round_held i m = held.faces_round_held k i l m
