-- What reading a slip in either form answers, and what it leaves in the slices that are lent for its job. Definitions only.
use Rattle.std.specs.Prelude.{ℕ, ◌-◌, Bool, true, false, cond, ◌||◌, List, ltb, length, Result, Ok, Err}
use Rattle.little_endian.specs.Bytes.{double_from}
use Rattle.slip.specs.declared.SlipJob.{SlipJob}
use Rattle.slip.specs.declared.SlipRefusal.{SlipRefusal}
use Rattle.slip.specs.declared.SlipRefusal.TheVariants as slip
use Rattle.slip.specs.Reading.{Rows, vertex_slots, triangle_slots, piece_slots, filled, reading}
use Rattle.groups.specs.declared.Form.{Form}
use Rattle.groups.specs.declared.Form.TheVariants.{Plain, Groups}
use Rattle.slip_moves.specs.declared.Refusal.{Refusal}
use Rattle.slip_moves.specs.declared.Refusal.TheVariants.{TooShort, LeftOver, UnknownKind}
use Rattle.slip_moves.specs.declared.Counts.{Counts}
use Rattle.slip_moves.specs.Moves.{Part, put, stop, slip_refusal_number, form_head_at, slip_moved}
use Rattle.form_read.specs.declared.ReadRefusal.{ReadRefusal}
use Rattle.form_read.specs.declared.ReadRefusal.TheVariants.{Slip, TooMany}
use Rattle.form_read.specs.Places.{job_at}

-- each answer's number: 30 to 33 in document 01, 34 and 35 in document 02; 0 is no refusal
abbrev pub read_refusal_number : ReadRefusal → ℕ
read_refusal_number (Slip why) = slip_refusal_number why
read_refusal_number TooMany = 33

abbrev pub answer_number : Result SlipJob ReadRefusal → ℕ
answer_number (Ok j) = 0
answer_number (Err why) = read_refusal_number why

abbrev pub is_read : Result SlipJob ReadRefusal → Bool
is_read (Ok j) = true
is_read (Err why) = false

-- the plain reader's answers
abbrev pub slip_refusal : SlipRefusal → ReadRefusal
slip_refusal slip.TooShort = Slip TooShort
slip_refusal slip.LeftOver = Slip LeftOver
slip_refusal slip.UnknownKind = Slip UnknownKind
slip_refusal slip.TooMany = TooMany

abbrev pub of_slip : Result SlipJob SlipRefusal → Result SlipJob ReadRefusal
of_slip (Ok j) = Ok j
of_slip (Err why) = Err (slip_refusal why)

-- a count is above what there is room for
unfoldable pub counts_exceed : ℕ → ℕ → ℕ → ℕ → ℕ → ℕ → Bool
counts_exceed v t p vertices triangles pieces = ltb vertices v || ltb triangles t || ltb pieces p

-- 33 once the counts are read, then what the walk over the slip meets: it is the one that moves it
unfoldable pub passed_answer : List ℕ → ℕ → ℕ → ℕ → Result SlipJob ReadRefusal
passed_answer s v t p = Ok (record { vertices = v; triangles = t; pieces = p; limit = double_from s (length s - 8) })

unfoldable pub walk_answer : List ℕ → ℕ → ℕ → ℕ → Part → Result SlipJob ReadRefusal
walk_answer s v t p (stop why) = Err (Slip why)
walk_answer s v t p (put j bytes) = passed_answer s v t p

unfoldable pub behind_counts : List ℕ → Result Counts Refusal → ℕ → ℕ → ℕ → Result SlipJob ReadRefusal
behind_counts s (Err why) vertices triangles pieces = Err (Slip why)
behind_counts s (Ok c) vertices triangles pieces =
    cond (counts_exceed c.vertices c.triangles c.pieces vertices triangles pieces) (Err TooMany) (walk_answer s c.vertices c.triangles c.pieces (slip_moved Groups Plain s))

unfoldable pub groups_answer : List ℕ → ℕ → ℕ → ℕ → Result SlipJob ReadRefusal
groups_answer s vertices triangles pieces = behind_counts s (form_head_at Groups s) vertices triangles pieces

-- the job's lists stand at the fronts, and no other element changes; a refusal changes nothing
unfoldable pub job_written : List ℕ → Result Counts Refusal → Rows → Rows
job_written s (Err why) b = b
job_written s (Ok c) b = filled (job_at s c.vertices c.triangles c.pieces c.next) b

unfoldable pub form_written : List ℕ → Result SlipJob ReadRefusal → Rows → Rows
form_written s (Err why) b = b
form_written s (Ok j) b = job_written s (form_head_at Groups s) b

unfoldable pub groups_reading : List ℕ → Rows → Result SlipJob ReadRefusal × Rows
groups_reading s b =
    (groups_answer s (vertex_slots b) (triangle_slots b) (piece_slots b), form_written s (groups_answer s (vertex_slots b) (triangle_slots b) (piece_slots b)) b)

-- the reader is told the form
unfoldable pub form_reading : Form → List ℕ → Rows → Result SlipJob ReadRefusal × Rows
form_reading Plain s b = (of_slip (reading s b).0, (reading s b).1)
form_reading Groups s b = groups_reading s b
