-- What reading and writing binary STL answer, and what they leave in the lent slices. Definitions only.
use Rattle.std.specs.Prelude.{ℕ, ◌*◌, ◌/◌, ◌%◌, Bool, not, cond, ◌||◌, List, eqb, ltb, length, get_or, Float, Result, Ok, Err}
use Rattle.std.specs.Float.{nan}
use Rattle.job_checks.specs.Any.{any_below}
use Rattle.job_checks.specs.Refusals.{max_vertices, max_triangles, missing_vertex}
use Rattle.little_endian.specs.Bytes.{put_in_front}
use Rattle.single.specs.Single.{is_single}
use Rattle.stl_format.specs.declared.StlCounts.{StlCounts}
use Rattle.stl_format.specs.declared.StlRefusal.{StlRefusal}
use Rattle.stl_format.specs.declared.StlRefusal.TheVariants as stl
use Rattle.stl_format.specs.Format.{StlMesh, record_count, file_length, bytes_not_finite, vertex_points, mesh_in, file_of}

-- each answer's number in 02, of the first two that of document 01; 0 is no refusal
abbrev pub refusal_number : StlRefusal → ℕ
refusal_number stl.Malformed = 1
refusal_number stl.MissingVertex = 2
refusal_number stl.TooShort = 40
refusal_number stl.WrongLength = 41
refusal_number stl.NotFinite = 42
refusal_number stl.TooMany = 43
refusal_number stl.NotSingle = 44
refusal_number stl.ShortBuffer = 45

abbrev pub stl_number : {A : Type 0} → Result A StlRefusal → ℕ
stl_number (Ok answer) = 0
stl_number (Err why) = refusal_number why

-- ---- reading

-- 43: over 65,535 vertices or 131,070 triangles
unfoldable pub counts_too_many : List ℕ → Bool
counts_too_many s = ltb max_triangles (record_count s) || ltb max_vertices (length (vertex_points s))

-- 40 to 43, then 45 where there are slots for fewer vertices or triangles, or the counts of the mesh
unfoldable pub read_answer : List ℕ → ℕ → ℕ → Result StlCounts StlRefusal
unfolding bytes_not_finite vertex_points counts_too_many
read_answer s vertex_slots triangle_slots =
    cond (ltb (length s) 84) (Err stl.TooShort)
    (cond (not (eqb (length s) (file_length (record_count s)))) (Err stl.WrongLength)
    (cond (any_below (bytes_not_finite s) (3 * record_count s)) (Err stl.NotFinite)
    (cond (counts_too_many s) (Err stl.TooMany)
    (cond (ltb vertex_slots (length (vertex_points s)) || ltb triangle_slots (record_count s)) (Err stl.ShortBuffer)
    (Ok (record { vertices = length (vertex_points s); triangles = record_count s }))))))

-- the mesh stands at the fronts of the two slices, and no other element changes; a refusal changes nothing
unfoldable pub after_reading : List ℕ → Result StlCounts StlRefusal → StlMesh → StlMesh
unfolding mesh_in put_in_front
after_reading s (Ok counts) b = record { vertices = put_in_front (mesh_in s).vertices b.vertices; triangles = put_in_front (mesh_in s).triangles b.triangles }
after_reading s (Err why) b = b

abbrev pub mesh_lists : List Float → List ℕ → StlMesh
mesh_lists v t = record { vertices = v; triangles = t }

unfoldable pub stl_reading : List ℕ → StlMesh → Result StlCounts StlRefusal × StlMesh
unfolding read_answer after_reading
stl_reading s b =
    let answer = read_answer s (length b.vertices / 3) (length b.triangles / 3) in
    (answer, after_reading s answer b)

-- ---- writing

-- 1 of the counts: no whole vertices or triangles, or too many
unfoldable pub wrong_sizes : ℕ → ℕ → Bool
wrong_sizes vertices triangles = not (eqb (vertices % 3) 0) || not (eqb (triangles % 3) 0) || ltb max_vertices (vertices / 3) || ltb max_triangles (triangles / 3)

-- 44: no single holds coordinate i
unfoldable pub not_single : List Float → ℕ → Bool
unfolding is_single
not_single v i = not (is_single (get_or v i nan))

-- 1, 2, 44, of every vertex, used or not, then 45 where there is room for fewer bytes, or how long the file is
unfoldable pub write_answer : List Float → List ℕ → ℕ → Result ℕ StlRefusal
unfolding wrong_sizes not_single
write_answer v t bytes =
    cond (wrong_sizes (length v) (length t)) (Err stl.Malformed)
    (cond (missing_vertex v t) (Err stl.MissingVertex)
    (cond (any_below (not_single v) (length v)) (Err stl.NotSingle)
    (cond (ltb bytes (file_length (length t / 3))) (Err stl.ShortBuffer)
    (Ok (file_length (length t / 3))))))

-- the file stands at the front, and no other byte changes; a refusal changes nothing
unfoldable pub after_writing : List Float → List ℕ → Result ℕ StlRefusal → List ℕ → List ℕ
unfolding file_of put_in_front
after_writing v t (Ok bytes) out = put_in_front (file_of v t) out
after_writing v t (Err why) out = out

unfoldable pub stl_writing : List Float → List ℕ → List ℕ → Result ℕ StlRefusal × List ℕ
unfolding write_answer after_writing
stl_writing v t out =
    let answer = write_answer v t (length out) in
    (answer, after_writing v t answer out)
