-- Document 01's slip. Little-endian: counts of vertices, triangles, pieces; three doubles a vertex; three numbers a triangle; a byte a flag; the
-- pieces, each a kind byte, a face and three doubles, of a segment six; the limit. Definitions only.
use Rattle.std.specs.Prelude.{ℕ, zero, suc, ◌+◌, ◌*◌, Bool, true, false, cond, ◌||◌, List, [], ◌∷◌, ◌++◌, eqb, ltb, length, get_or, Float, Result, Ok, Err}
use Rattle.nat_laws.specs.Lists.{list_of}
use Rattle.float64.specs.Scalar.{zero64}
use Rattle.job_checks.specs.Job.{Job}
use Rattle.little_endian.specs.Bytes.{number_from, double_from, doubles_from, numbers_from, bytes_from}
use Rattle.slip.specs.declared.SlipJob.{SlipJob}
use Rattle.slip.specs.declared.SlipRefusal.{SlipRefusal}
use Rattle.slip.specs.declared.SlipRefusal.TheVariants.{TooShort, LeftOver, UnknownKind, TooMany}

-- each answer's number in document 01; 0 is no refusal
abbrev pub refusal_number : SlipRefusal → ℕ
refusal_number TooShort = 30
refusal_number LeftOver = 31
refusal_number UnknownKind = 32
refusal_number TooMany = 33

abbrev pub slip_number : Result SlipJob SlipRefusal → ℕ
slip_number (Ok j) = 0
slip_number (Err why) = refusal_number why

abbrev pub is_job : Result SlipJob SlipRefusal → Bool
is_job (Ok j) = true
is_job (Err why) = false

-- ---- where the parts stand

abbrev pub vertex_count_in : List ℕ → ℕ
vertex_count_in s = number_from s 0

abbrev pub triangle_count_in : List ℕ → ℕ
triangle_count_in s = number_from s 4

abbrev pub piece_count_in : List ℕ → ℕ
piece_count_in s = number_from s 8

abbrev pub vertices_from : ℕ
vertices_from = 12

abbrev pub triangles_from : List ℕ → ℕ
triangles_from s = vertices_from + 24 * vertex_count_in s

abbrev pub flags_from : List ℕ → ℕ
flags_from s = triangles_from s + 12 * triangle_count_in s

abbrev pub pieces_from : List ℕ → ℕ
pieces_from s = flags_from s + vertex_count_in s

-- how many bytes a piece of a kind has, and where piece i starts
unfoldable pub piece_size : ℕ → ℕ
piece_size kind = cond (eqb kind 0) 29 53

unfoldable pub piece_from : List ℕ → ℕ → ℕ
unfolding piece_size
piece_from s zero = pieces_from s
piece_from s (suc i) = piece_from s i + piece_size (get_or s (piece_from s i) 0)

-- ---- the job

-- the six coordinates of the piece that starts at byte i: of a point the last three are 0
unfoldable pub second_double_at : List ℕ → ℕ → ℕ → Float
second_double_at s i k = cond (eqb (get_or s i 0) 0) zero64 (double_from s (i + k))

unfoldable pub piece_coords : List ℕ → ℕ → List Float
unfolding second_double_at
piece_coords s i = double_from s (i + 5) ∷ double_from s (i + 13) ∷ double_from s (i + 21) ∷ second_double_at s i 29 ∷ second_double_at s i 37 ∷ second_double_at s i 45 ∷ []

-- of the first n pieces the kinds, the faces and the coordinates
unfoldable pub kinds_in : List ℕ → ℕ → List ℕ
unfolding piece_from
kinds_in s n = list_of n (λ i. get_or s (piece_from s i) 0)

unfoldable pub faces_in : List ℕ → ℕ → List ℕ
unfolding piece_from
faces_in s n = list_of n (λ i. number_from s (piece_from s i + 1))

unfoldable pub coords_in : List ℕ → ℕ → List Float
unfolding piece_from piece_coords
coords_in s zero = []
coords_in s (suc n) = coords_in s n ++ piece_coords s (piece_from s n)

unfoldable pub job_in : List ℕ → Job
unfolding doubles_from numbers_from bytes_from piece_from kinds_in faces_in coords_in
job_in s = record {
  vertices = doubles_from s vertices_from (3 * vertex_count_in s);
  triangles = numbers_from s (triangles_from s) (3 * triangle_count_in s);
  flags = bytes_from s (flags_from s) (vertex_count_in s);
  kinds = kinds_in s (piece_count_in s);
  faces = faces_in s (piece_count_in s);
  coords = coords_in s (piece_count_in s);
  limit = double_from s (piece_from s (piece_count_in s));
}

-- ---- what reading answers: 33 once the counts are read, 30 and 32 as met, 31 last

-- n pieces from byte i on, then the limit
unfoldable pub after_pieces : List ℕ → ℕ → ℕ → Result SlipJob SlipRefusal
unfolding piece_size
after_pieces s zero i =
    cond (ltb (length s) (i + 8)) (Err TooShort)
    (cond (ltb (i + 8) (length s)) (Err LeftOver)
    (Ok (record { vertices = vertex_count_in s; triangles = triangle_count_in s; pieces = piece_count_in s; limit = double_from s i })))
after_pieces s (suc n) i =
    cond (ltb (length s) (i + 1)) (Err TooShort)
    (cond (ltb 1 (get_or s i 0)) (Err UnknownKind)
    (cond (ltb (length s) (i + piece_size (get_or s i 0))) (Err TooShort)
    (after_pieces s n (i + piece_size (get_or s i 0)))))

-- a count is above what there is room for
unfoldable pub exceeds : List ℕ → ℕ → ℕ → ℕ → Bool
exceeds s vertices triangles pieces = ltb vertices (vertex_count_in s) || ltb triangles (triangle_count_in s) || ltb pieces (piece_count_in s)

unfoldable pub answer_to : List ℕ → ℕ → ℕ → ℕ → Result SlipJob SlipRefusal
unfolding exceeds after_pieces
answer_to s vertices triangles pieces =
    cond (ltb (length s) 12) (Err TooShort)
    (cond (exceeds s vertices triangles pieces) (Err TooMany)
    (cond (ltb (length s) (pieces_from s)) (Err TooShort)
    (after_pieces s (piece_count_in s) (pieces_from s))))
