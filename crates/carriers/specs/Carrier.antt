-- The Rust's `carrier`: the faces whose closure holds a point of face f, over the buffers and over the topology's lists. Definitions only: `carrier_held` and
-- `count_held` in proofs/Held.antt and `carrier_face_held` in proofs/Faces.antt say that the two agree where the buffers hold the topology.
use Rattle.std.specs.Prelude.{ℕ, ◌+◌, ◌*◌, ◌/◌, ◌<◌, Bool, cond, List, [], ◌∷◌, ◌++◌, eqb, Float, length, get_or}
use Rattle.layout.specs.Layout.{words_per_vertex, vertex_start}
use Rattle.vec3.specs.declared.Vec3.{Vec3}
use Rattle.topology.specs.Edges.{no_face, edges, tri_edge, face, shared_vertex, vertex_faces}
use Rattle.topology.specs.Frames.{len, coords_y}
use Rattle.frames.specs.Stored.{face_at, length_at}
use Rattle.mesh_readers.specs.Readers.{side_in, coords_at, shared_at, round_at, degree_at}
use Rattle.source_windows.specs.Wedge.{lies_on}
use Rattle.carriers.specs.declared.CarrierSimplex.{CarrierSimplex}
use Rattle.carriers.specs.declared.CarrierSimplex.TheVariants.{Face, Edge, Vertex}

-- the Rust's `(0..3).filter(..)`, from what the filter says of 0, 1 and 2
unfoldable pub filtered : Bool → Bool → Bool → List ℕ
filtered a b c = cond a (0 ∷ []) [] ++ (cond b (1 ∷ []) [] ++ cond c (2 ∷ []) [])

-- the Rust's `.filter(|&g| g != NONE)`
unfoldable pub present : List ℕ → List ℕ
present [] = []
present (g ∷ gs) = cond (eqb g no_face) (present gs) (g ∷ present gs)

-- ---- over the topology
-- p counts as lying on side k of face f: its computed distance from there into the face is at most 1e-9 of the edge's length
unfoldable pub on_side : List Float → List ℕ → ℕ → Vec3 → ℕ → Bool
on_side v triangles f p k =
    let e : ℕ = tri_edge triangles (3 * f + k) in
    lies_on (coords_y v triangles e f p) (len v triangles e)

-- the faces, from the sides that the point lies on: the face; the faces of the edge; those round the vertex that the first two edges share
unfoldable pub faces_on : List ℕ → ℕ → List ℕ → List ℕ
faces_on triangles f [] = f ∷ []
faces_on triangles f (i ∷ []) =
    let e : ℕ = tri_edge triangles (3 * f + i) in
    present (face triangles e 0 ∷ (face triangles e 1 ∷ []))
faces_on triangles f (i ∷ (j ∷ on)) = vertex_faces triangles (shared_vertex triangles (tri_edge triangles (3 * f + i)) (tri_edge triangles (3 * f + j)))

unfoldable pub carrier_of : List Float → List ℕ → ℕ → Vec3 → List ℕ
carrier_of v triangles f p =
    let on : ℕ → Bool = on_side v triangles f p in
    faces_on triangles f (filtered (on 0) (on 1) (on 2))

-- `source_point`'s `if carriers[0] == g { carriers[1] } else { carriers[0] }`
abbrev pub other_carrier : ℕ → ℕ → ℕ → ℕ
other_carrier g a b = cond (eqb a g) b a

-- the faces of what the point lies on
unfoldable pub faces_of : List ℕ → ℕ → CarrierSimplex → List ℕ
faces_of triangles f Face = f ∷ []
faces_of triangles f (Edge e) = present (face triangles e.0 0 ∷ (face triangles e.0 1 ∷ []))
faces_of triangles f (Vertex k) = vertex_faces triangles k.0

-- and it is one of the mesh's, of n vertices
unfoldable pub InMesh : List ℕ → ℕ → ℕ → CarrierSimplex → Type 0
InMesh triangles n f Face = f < length triangles / 3
InMesh triangles n f (Edge e) = e.0 < length (edges triangles)
InMesh triangles n f (Vertex k) = k.0 < n

-- ---- over the buffers
unfoldable pub on_side_at : List Float → List ℕ → List Float → List ℕ → List Float → ℕ → Vec3 → ℕ → Bool
on_side_at v edge_words edge_reals triangle_words triangleReals f p k =
    let e : ℕ = side_in triangle_words f k in
    lies_on (coords_at v edge_words edge_reals triangle_words triangleReals e f p).y (length_at edge_reals e)

-- what the point lies on, from the sides that it lies on
unfoldable pub simplex_of : List ℕ → List ℕ → ℕ → List ℕ → CarrierSimplex
simplex_of edge_words triangle_words f [] = Face
simplex_of edge_words triangle_words f (i ∷ []) = Edge (record { 0 = side_in triangle_words f i })
simplex_of edge_words triangle_words f (i ∷ (j ∷ on)) = Vertex (record { 0 = shared_at edge_words (side_in triangle_words f i) (side_in triangle_words f j) })

unfoldable pub carrier_at : List Float → List ℕ → List Float → List ℕ → List Float → ℕ → Vec3 → CarrierSimplex
carrier_at v edge_words edge_reals triangle_words triangleReals f p =
    let on : ℕ → Bool = on_side_at v edge_words edge_reals triangle_words triangleReals f p in
    simplex_of edge_words triangle_words f (filtered (on 0) (on 1) (on 2))

-- the Rust's `carrier(..).len()`
unfoldable pub carrier_count_at : List ℕ → List ℕ → CarrierSimplex → ℕ
carrier_count_at edge_words vertex_words Face = 1
carrier_count_at edge_words vertex_words (Edge e) = length (present (face_at edge_words e.0 0 ∷ (face_at edge_words e.0 1 ∷ [])))
carrier_count_at edge_words vertex_words (Vertex k) = degree_at vertex_words k.0

-- the Rust's `carrier(..)[i]`
unfoldable pub carrier_face_at : List ℕ → List ℕ → List ℕ → ℕ → CarrierSimplex → ℕ → ℕ
carrier_face_at edge_words vertex_words round f Face i = f
carrier_face_at edge_words vertex_words round f (Edge e) i = get_or (present (face_at edge_words e.0 0 ∷ (face_at edge_words e.0 1 ∷ []))) i no_face
carrier_face_at edge_words vertex_words round f (Vertex k) i = round_at round (get_or vertex_words (words_per_vertex * k.0 + vertex_start) 0 + i)
