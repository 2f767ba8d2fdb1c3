-- What the readers answer, from what the buffers hold. Definitions only: `*-held` in proofs/Held.antt say that it is the topology's where they hold one.
use Rattle.std.specs.Prelude.{ℕ, ◌+◌, ◌-◌, ◌*◌, Bool, cond, ◌||◌, List, eqb, get_or, Float}
use Rattle.layout.specs.Layout.{vertices_per_triangle, words_per_vertex, vertex_start, vertex_end, words_per_triangle, reals_per_triangle, reals_per_normal}
use Rattle.vec3.specs.declared.Vec3.{Vec3}
use Rattle.vec3.specs.Vec.{sub_of, dot_of}
use Rattle.topology.specs.Edges.{EndPair, off_ends, joins}
use Rattle.frames.specs.Stored.{low_at, high_at, face_at, vector_from, length_at, unit_at, origin_at}
use Rattle.windows.specs.declared.Edge.{Edge as TrimEdge}
use Rattle.mesh_readers.specs.declared.EdgeEnds.{EdgeEnds}
use Rattle.mesh_readers.specs.declared.FacePair.{FacePair}
use Rattle.mesh_readers.specs.declared.FrameCoords.{FrameCoords}
use Rattle.mesh_readers.specs.declared.RoundRange.{RoundRange}

-- ---- of an edge
abbrev pub edge_at : List ℕ → ℕ → EndPair
edge_at edge_words e = record { low = low_at edge_words e; high = high_at edge_words e }

abbrev pub ends_at : List ℕ → ℕ → EdgeEnds
ends_at edge_words e = record { a = record { 0 = low_at edge_words e }; b = record { 0 = high_at edge_words e } }

-- as trimming takes it
abbrev pub trim_edge_at : List ℕ → List Float → ℕ → TrimEdge
trim_edge_at edge_words edge_reals e = record { id = record { 0 = e }; len = length_at edge_reals e; a = record { 0 = low_at edge_words e }; b = record { 0 = high_at edge_words e } }

abbrev pub faces_at : List ℕ → ℕ → FacePair
faces_at edge_words e = record { first = record { 0 = face_at edge_words e 0 }; second = record { 0 = face_at edge_words e 1 } }

-- the face of edge e that is not f
unfoldable pub other_at : List ℕ → ℕ → ℕ → ℕ
other_at edge_words e f = cond (eqb (face_at edge_words e 0) f) (face_at edge_words e 1) (face_at edge_words e 0)

-- the vertex that the edges e and o share
unfoldable pub shared_at : List ℕ → ℕ → ℕ → ℕ
shared_at edge_words e o = cond (off_ends (low_at edge_words e) (edge_at edge_words o)) (high_at edge_words e) (low_at edge_words e)

-- ---- of a face
-- its side k, and the normal of that side
abbrev pub side_in : List ℕ → ℕ → ℕ → ℕ
side_in triangle_words f k = get_or triangle_words (words_per_triangle * f + k) 0

abbrev pub normal_in : List Float → ℕ → ℕ → Vec3
normal_in triangleReals f k = vector_from triangleReals (reals_per_triangle * f + reals_per_normal * k)

-- which side of it edge e is
unfoldable pub local_at : List ℕ → ℕ → ℕ → ℕ
local_at triangle_words f e = cond (eqb (side_in triangle_words f 0) e) 0 (cond (eqb (side_in triangle_words f 1) e) 1 2)

-- the vertex of it that is not on edge e
unfoldable pub third_at : List ℕ → List ℕ → ℕ → ℕ → ℕ
third_at triangles edge_words e f =
    cond (off_ends (get_or triangles (vertices_per_triangle * f + 0) 0) (edge_at edge_words e)) (get_or triangles (vertices_per_triangle * f + 0) 0)
    (cond (off_ends (get_or triangles (vertices_per_triangle * f + 1) 0) (edge_at edge_words e)) (get_or triangles (vertices_per_triangle * f + 1) 0)
    (get_or triangles (vertices_per_triangle * f + 2) 0))

-- the edge of it between the vertices a and b
unfoldable pub edge_between_at : List ℕ → List ℕ → ℕ → ℕ → ℕ → ℕ
edge_between_at edge_words triangle_words f a b =
    cond (joins a b (edge_at edge_words (side_in triangle_words f 0))) (side_in triangle_words f 0)
    (cond (joins a b (edge_at edge_words (side_in triangle_words f 1))) (side_in triangle_words f 1)
    (side_in triangle_words f 2))

-- h is the first or the second face of edge e
abbrev pub face_of : List ℕ → ℕ → ℕ → Bool
face_of edge_words e h = eqb (face_at edge_words e 0) h || eqb (face_at edge_words e 1) h

-- the first side of it whose edge has face h, 3 where none has
unfoldable pub side_to_at : List ℕ → List ℕ → ℕ → ℕ → ℕ
side_to_at edge_words triangle_words f h =
    cond (face_of edge_words (side_in triangle_words f 0) h) 0
    (cond (face_of edge_words (side_in triangle_words f 1) h) 1
    (cond (face_of edge_words (side_in triangle_words f 2) h) 2 3))

-- p in the frame of edge e, across it into face f
unfoldable pub coords_at : List Float → List ℕ → List Float → List ℕ → List Float → ℕ → ℕ → Vec3 → FrameCoords
unfolding local_at
coords_at v edge_words edge_reals triangle_words triangleReals e f p =
    let w : Vec3 = sub_of p (origin_at v edge_words e) in
    record { x = dot_of w (unit_at edge_reals e); y = dot_of w (normal_in triangleReals f (local_at triangle_words f e)) }

-- ---- of a vertex: where its faces stand in the list of the faces round the vertices, how many they are, and an entry of that list
abbrev pub range_at : List ℕ → ℕ → RoundRange
range_at vertex_words k = record { start = get_or vertex_words (words_per_vertex * k + vertex_start) 0; end = get_or vertex_words (words_per_vertex * k + vertex_end) 0 }

abbrev pub degree_at : List ℕ → ℕ → ℕ
degree_at vertex_words k = get_or vertex_words (words_per_vertex * k + vertex_end) 0 - get_or vertex_words (words_per_vertex * k + vertex_start) 0

abbrev pub round_at : List ℕ → ℕ → ℕ
round_at round i = get_or round i 0
