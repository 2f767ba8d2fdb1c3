-- What a caller in C or Rust is told of a slip. Definitions only.
use Rattle.std.specs.Prelude.{ℕ, List, ◌≡◌, Float, Option, Some, None, Result, Ok, Err, set}
use Rattle.slip.specs.declared.SlipJob.{SlipJob}
use Rattle.slip.specs.declared.SlipRefusal.{SlipRefusal}
use Rattle.slip.specs.Format.{refusal_number}
use Rattle.slip.specs.Reading.{Rows, reading}
use Rattle.job_checks.specs.Job.{Job}
use Rattle.slip_write.specs.Write.{writing}

-- the number that is answered; three counts and the limit, as far as there is a slice for them
unfoldable pub slip_told : Result SlipJob SlipRefusal → List ℕ → List Float → ℕ × (List ℕ × List Float)
slip_told (Err why) t l = (refusal_number why, (t, l))
slip_told (Ok j) t l = (0, (set (set (set t 0 j.vertices) 1 j.triangles) 2 j.pieces, set l 0 j.limit))

-- the slip is read, and its answer told
pub record ReadTold (s : List ℕ) (b : Rows) (told : List ℕ) (limit : List Float) (r : ℕ) (b' : Rows) (told' : List ℕ) (limit' : List Float) : Type 0 where
  pub answer : Result SlipJob SlipRefusal
  pub reads : (answer, b') ≡ reading s b
  pub tells : (r, (told', limit')) ≡ slip_told answer told limit

-- how many bytes were written; 0 where they do not fit, which no slip has
unfoldable pub length_told : Option ℕ → ℕ
length_told (Some n) = n
length_told None = 0

pub record WriteTold (j : Job) (out : List ℕ) (r : ℕ) (out' : List ℕ) : Type 0 where
  pub answer : Option ℕ
  pub writes : (answer, out') ≡ writing j out
  pub tells : r ≡ length_told answer
