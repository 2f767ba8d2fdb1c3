-- The slip of a job. A count is written by its low 32 bits; where a piece has no face or coordinates, 0 and NaN are written. Definitions only.
use Rattle.std.specs.Prelude.{ℕ, zero, suc, ◌+◌, ◌*◌, ◌%◌, Bool, cond, ◌||◌, List, [], ◌∷◌, ◌++◌, eqb, ltb, length, get_or, Float, Option, Some, None}
use Rattle.std.specs.Float.{nan}
use Rattle.job_checks.specs.Job.{Job, vertex_count, triangle_count, piece_count}
use Rattle.little_endian.specs.Bytes.{number_bytes, double_bytes, put_in_front}

-- the bytes of the first n elements of a row
unfoldable pub doubles_bytes : List Float → ℕ → List ℕ
unfolding double_bytes
doubles_bytes xs zero = []
doubles_bytes xs (suc n) = doubles_bytes xs n ++ double_bytes (get_or xs n nan)

unfoldable pub numbers_bytes : List ℕ → ℕ → List ℕ
unfolding number_bytes
numbers_bytes xs zero = []
numbers_bytes xs (suc n) = numbers_bytes xs n ++ number_bytes (get_or xs n 0)

-- three coordinates from coordinate i on
unfoldable pub three_bytes : List Float → ℕ → List ℕ
unfolding double_bytes
three_bytes coords i = double_bytes (get_or coords i nan) ++ double_bytes (get_or coords (i + 1) nan) ++ double_bytes (get_or coords (i + 2) nan)

-- piece k: its kind, its face and the coordinates of a point or of a segment
unfoldable pub piece_bytes : List ℕ → List ℕ → List Float → ℕ → List ℕ
unfolding number_bytes three_bytes
piece_bytes kinds faces coords k =
    (get_or kinds k 0 ∷ []) ++ number_bytes (get_or faces k 0) ++ three_bytes coords (6 * k) ++ cond (eqb (get_or kinds k 0) 0) [] (three_bytes coords (6 * k + 3))

unfoldable pub pieces_bytes : List ℕ → List ℕ → List Float → ℕ → List ℕ
unfolding piece_bytes
pieces_bytes kinds faces coords zero = []
pieces_bytes kinds faces coords (suc n) = pieces_bytes kinds faces coords n ++ piece_bytes kinds faces coords n

-- the three counts; the mesh; the pieces and the limit
unfoldable pub counts_bytes : ℕ → ℕ → ℕ → List ℕ
unfolding number_bytes
counts_bytes vertices triangles pieces = number_bytes (vertices % 4_294_967_296) ++ number_bytes (triangles % 4_294_967_296) ++ number_bytes (pieces % 4_294_967_296)

unfoldable pub mesh_bytes : List Float → List ℕ → List ℕ → List ℕ
unfolding doubles_bytes numbers_bytes
mesh_bytes vertices triangles flags = doubles_bytes vertices (length vertices) ++ numbers_bytes triangles (length triangles) ++ flags

unfoldable pub rest_bytes : List ℕ → List ℕ → List Float → Float → List ℕ
unfolding pieces_bytes double_bytes
rest_bytes kinds faces coords limit = pieces_bytes kinds faces coords (length kinds) ++ double_bytes limit

unfoldable pub slip_of : Job → List ℕ
unfolding counts_bytes mesh_bytes rest_bytes
slip_of j = counts_bytes (vertex_count j) (triangle_count j) (piece_count j) ++ mesh_bytes j.vertices j.triangles j.flags ++ rest_bytes j.kinds j.faces j.coords j.limit

-- a list of more than 2 ^ 56 elements
unfoldable pub oversized : ℕ → ℕ → ℕ → ℕ → Bool
oversized vertices triangles flags kinds =
    ltb 72_057_594_037_927_936 vertices || ltb 72_057_594_037_927_936 triangles || ltb 72_057_594_037_927_936 flags || ltb 72_057_594_037_927_936 kinds

-- the answer and the slice; no slice that is lent has room for so long a list
unfoldable pub writing : Job → List ℕ → Option ℕ × List ℕ
unfolding slip_of oversized put_in_front
writing j out =
    cond (oversized (length j.vertices) (length j.triangles) (length j.flags) (length j.kinds)) (None, out)
    (cond (ltb (length out) (length (slip_of j))) (None, out) (Some (length (slip_of j)), put_in_front (slip_of j) out))
