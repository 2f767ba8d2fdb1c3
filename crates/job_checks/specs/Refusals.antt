-- Document 01's refusals 1 to 9, in its order and with its bounds. Definitions only.
-- A comparison with a NaN is false, so each bound on a float is written as what must hold.
use Rattle.std.specs.Prelude.{ℕ, ◌+◌, ◌*◌, ◌/◌, ◌%◌, Bool, not, ◌&&◌, ◌||◌, List, [], ◌∷◌, ltb, leb, eqb, length, get_or, Float, Result, Ok, Err}
use Rattle.std.specs.Float.{nan, binary64}
use Rattle.std.specs.Float.Ieee.{of_bits, le, neg}
use Rattle.layout.specs.Layout.{coordinates_per_vertex, coordinates_per_piece}
use Rattle.float64.specs.Scalar.{zero64}
use Rattle.vec3.specs.declared.Vec3.{Vec3}
use Rattle.job_checks.specs.declared.BufferCounts.{BufferCounts}
use Rattle.job_checks.specs.declared.Refusal.{Refusal}
use Rattle.job_checks.specs.declared.Refusal.TheVariants.{Malformed, MissingVertex, RepeatedVertex, VertexOutOfRange, DegenerateTriangle, MissingFace, PieceOutOfRange, LimitOutOfRange, ShortBuffer}
use Rattle.job_checks.specs.Any.{any_below, any_of, first_of}
use Rattle.job_checks.specs.Edge.{vertex_at, lower, higher, len_of, altitude_of}
use Rattle.job_checks.specs.Job.{Job, vertex_count, triangle_count, piece_count}

-- each answer's number in document 01; 0 is no refusal
abbrev pub refusal_number : Result (Unit {0}) Refusal → ℕ
refusal_number (Ok u) = 0
refusal_number (Err Malformed) = 1
refusal_number (Err MissingVertex) = 2
refusal_number (Err RepeatedVertex) = 3
refusal_number (Err VertexOutOfRange) = 4
refusal_number (Err DegenerateTriangle) = 5
refusal_number (Err MissingFace) = 6
refusal_number (Err PieceOutOfRange) = 7
refusal_number (Err LimitOutOfRange) = 8
refusal_number (Err ShortBuffer) = 9

-- the bounds of a job: counts, then floats
abbrev pub max_vertices : ℕ
max_vertices = 65_535

abbrev pub max_triangles : ℕ
max_triangles = 131_070

abbrev pub max_pieces : ℕ
max_pieces = 65_535

-- 1,000,000.0
abbrev pub max_coordinate : Float
max_coordinate = of_bits binary64 0x412e_8480_0000_0000

-- 0.001
abbrev pub min_length : Float
min_length = of_bits binary64 0x3f50_624d_d2f1_a9fc

-- 1e-6
abbrev pub min_altitude : Float
min_altitude = of_bits binary64 0x3eb0_c6f7_a0b5_ed8d

-- 10,000,000.0
abbrev pub max_limit : Float
max_limit = of_bits binary64 0x4163_12d0_0000_0000

-- byte i is neither 0 nor 1
unfoldable pub above_one : List ℕ → ℕ → Bool
above_one bytes i = ltb 1 (get_or bytes i 0)

-- six lengths: one is no whole number of records, a count is over its bound, or two lists of one thing disagree
unfoldable pub wrong_counts : ℕ → ℕ → ℕ → ℕ → ℕ → ℕ → Bool
wrong_counts vertices triangles flags kinds faces coords = any_of (
    not (eqb (vertices % 3) 0) ∷
    not (eqb (triangles % 3) 0) ∷
    ltb max_vertices (vertices / 3) ∷
    ltb max_triangles (triangles / 3) ∷
    ltb max_pieces kinds ∷
    not (eqb flags (vertices / 3)) ∷
    not (eqb faces kinds) ∷
    not (eqb coords (coordinates_per_piece * kinds)) ∷ [])

-- 1: a count over its bound, or flags not one per vertex or not 0 or 1; and whatever else is no list of whole records
unfoldable pub malformed : ℕ → ℕ → List ℕ → List ℕ → ℕ → ℕ → Bool
malformed vertices triangles flags kinds faces coords = any_of (
    wrong_counts vertices triangles (length flags) (length kinds) faces coords ∷
    any_below (above_one flags) (length flags) ∷
    any_below (above_one kinds) (length kinds) ∷ [])

-- number i names none of count things
unfoldable pub missing : ℕ → List ℕ → ℕ → Bool
missing count numbers i = leb count (get_or numbers i 0)

-- 2: a triangle names a missing vertex
abbrev pub missing_vertex : List Float → List ℕ → Bool
missing_vertex v t = any_below (missing (length v / 3) t) (length t)

unfoldable pub repeated : ℕ → ℕ → ℕ → Bool
repeated a b c = any_of (eqb a b ∷ eqb b c ∷ eqb c a ∷ [])

abbrev pub repeated_in : List ℕ → ℕ → Bool
repeated_in triangles t = repeated (get_or triangles (3 * t) 0) (get_or triangles (3 * t + 1) 0) (get_or triangles (3 * t + 2) 0)

-- 3: a triangle names a vertex twice
abbrev pub repeated_vertex : List ℕ → Bool
repeated_vertex t = any_below (repeated_in t) (length t / 3)

unfoldable pub out_of_range : Float → Bool
out_of_range x = not (le (neg max_coordinate) x && le x max_coordinate)

abbrev pub out_of_range_at : List Float → ℕ → Bool
out_of_range_at coords i = out_of_range (get_or coords i nan)

-- 4: a vertex's coordinate is out of range
abbrev pub vertex_out_of_range : List Float → Bool
vertex_out_of_range v = any_below (out_of_range_at v) (length v)

-- the edge from o to b is too short, or the altitude of the third vertex over it too small
unfoldable pub degenerate : Vec3 → Vec3 → Vec3 → Bool
degenerate o b third = not (le min_length (len_of o b) && le min_altitude (altitude_of o b third))

-- the same of the edge of vertices a and b, which starts at the lower-numbered one
unfoldable pub degenerate_edge : List Float → ℕ → ℕ → ℕ → Bool
degenerate_edge v a b third = degenerate (vertex_at v (lower a b)) (vertex_at v (higher a b)) (vertex_at v third)

-- one of the three edges of the triangle a b c, with the vertex opposite to it
unfoldable pub degenerate_in : List Float → ℕ → ℕ → ℕ → Bool
degenerate_in v a b c = any_of (degenerate_edge v a b c ∷ degenerate_edge v b c a ∷ degenerate_edge v c a b ∷ [])

abbrev pub degenerate_at : List Float → List ℕ → ℕ → Bool
degenerate_at v triangles t = degenerate_in v (get_or triangles (3 * t) 0) (get_or triangles (3 * t + 1) 0) (get_or triangles (3 * t + 2) 0)

-- 5: an edge too short or an altitude too small
abbrev pub degenerate_triangle : List Float → List ℕ → Bool
degenerate_triangle v t = any_below (degenerate_at v t) (length t / 3)

-- 6: a piece names a missing face
abbrev pub missing_face : ℕ → List ℕ → Bool
missing_face triangles faces = any_below (missing triangles faces) (length faces)

-- coordinate i is out of range and its piece uses it: a point, of kind 0, has only the first three of six
unfoldable pub used_out_of_range : List ℕ → List Float → ℕ → Bool
used_out_of_range kinds coords i = out_of_range_at coords i && (ltb (i % coordinates_per_piece) coordinates_per_vertex || not (eqb (get_or kinds (i / coordinates_per_piece) 0) 0))

-- 7: a piece's coordinate is out of range
abbrev pub piece_out_of_range : List ℕ → List Float → Bool
piece_out_of_range kinds coords = any_below (used_out_of_range kinds coords) (length coords)

-- 8: the limit is out of range or NaN
unfoldable pub limit_outside : Float → Bool
limit_outside x = not (le zero64 x && le x max_limit)

-- 9: a buffer of a fixed size is too short
unfoldable pub is_too_short : ℕ → ℕ → ℕ → BufferCounts → Bool
is_too_short vertices triangles pieces b = any_of (
    ltb b.edges (3 * triangles) ∷
    ltb b.vertex_faces (3 * triangles) ∷
    ltb b.vertices vertices ∷
    ltb b.triangles triangles ∷
    ltb b.pieces pieces ∷
    ltb b.scratch b.windows ∷
    ltb b.other_scratch b.windows ∷ [])

-- 2 to 4: the numbers and coordinates of the mesh
unfoldable pub mesh_tests : List Float → List ℕ → List (ℕ × Bool)
mesh_tests v t = (2, missing_vertex v t) ∷ (3, repeated_vertex t) ∷ (4, vertex_out_of_range v) ∷ []

-- 6 and 7: those of the pieces, at so many triangles
unfoldable pub piece_tests : ℕ → List ℕ → List ℕ → List Float → List (ℕ × Bool)
piece_tests triangles kinds faces coords = (6, missing_face triangles faces) ∷ (7, piece_out_of_range kinds coords) ∷ []

-- every refusal of a job by its number, in the order in which they are tried
unfoldable pub refusals : Job → BufferCounts → List (ℕ × Bool)
refusals j b =
    (1, malformed (length j.vertices) (length j.triangles) j.flags j.kinds (length j.faces) (length j.coords)) ∷
    (2, missing_vertex j.vertices j.triangles) ∷
    (3, repeated_vertex j.triangles) ∷
    (4, vertex_out_of_range j.vertices) ∷
    (5, degenerate_triangle j.vertices j.triangles) ∷
    (6, missing_face (triangle_count j) j.faces) ∷
    (7, piece_out_of_range j.kinds j.coords) ∷
    (8, limit_outside j.limit) ∷
    (9, is_too_short (vertex_count j) (triangle_count j) (piece_count j) b) ∷ []

-- the first of 1 to 9 that holds, or 0
abbrev pub refusal_of : Job → BufferCounts → ℕ
refusal_of j b = first_of (refusals j b)
