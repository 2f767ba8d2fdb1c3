-- Moves and readings of slips for programs in C and Rust. Definitions only.
use Rattle.std.specs.Prelude.{ℕ, List, cond, eqb, set, Float, Result, Ok, Err}
use Rattle.slip.specs.Reading.{Rows}
use Rattle.groups.specs.declared.Form.{Form}
use Rattle.groups.specs.declared.Form.TheVariants.{Plain, Groups}
use Rattle.slip.specs.declared.SlipJob.{SlipJob}
use Rattle.slip_moves.specs.declared.MoveRefusal.{MoveRefusal}
use Rattle.slip_moves.specs.declared.MoveRefusal.TheVariants.{NoRoom, Slip}
use Rattle.slip_moves.specs.Moves.{moved_number, moving}
use Rattle.form_read.specs.declared.ReadRefusal.{ReadRefusal}
use Rattle.form_read.specs.FormReading.{read_refusal_number, form_reading}

-- the length of the moved slip is told in a slice's first element
unfoldable pub told_length : Result ℕ MoveRefusal → List ℕ → List ℕ
told_length (Ok n) told = set told 0 n
told_length (Err (NoRoom n)) told = set told 0 n
told_length (Err (Slip r)) told = told

-- the answer's number, the output and what is told
unfoldable pub exported : Form → Form → List ℕ → List ℕ → List ℕ → ℕ × (List ℕ × List ℕ)
unfolding moving told_length
exported from to s out told = (moved_number (moving from to s out).0, ((moving from to s out).1, told_length (moving from to s out).0 told))

-- ---- reading

-- the number that is answered; three counts and the limit, as far as there is a slice for them
unfoldable pub read_told : Result SlipJob ReadRefusal → List ℕ → List Float → ℕ × (List ℕ × List Float)
read_told (Err why) t l = (read_refusal_number why, (t, l))
read_told (Ok j) t l = (0, (set (set (set t 0 j.vertices) 1 j.triangles) 2 j.pieces, set l 0 j.limit))

-- the number, the rooms, and what is told
unfoldable pub form_read : Form → List ℕ → Rows → List ℕ → List Float → ℕ × (Rows × (List ℕ × List Float))
form_read form s b t l = ((read_told (form_reading form s b).0 t l).0, ((form_reading form s b).1, (read_told (form_reading form s b).0 t l).1))

-- form 1 is plain, 2 is groups; 37 is any other
unfoldable pub exported_read : ℕ → List ℕ → Rows → List ℕ → List Float → ℕ × (Rows × (List ℕ × List Float))
exported_read form s b t l = cond (eqb form 1) (form_read Plain s b t l) (cond (eqb form 2) (form_read Groups s b t l) (37, (b, (t, l))))
