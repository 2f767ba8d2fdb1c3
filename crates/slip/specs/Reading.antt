-- What reading a slip leaves in the slices that are lent for its job. Definitions only.
use Rattle.std.specs.Prelude.{ℕ, ◌/◌, min, List, length, Float, Result, Ok, Err}
use Rattle.job_checks.specs.Job.{Job}
use Rattle.little_endian.specs.Bytes.{put_in_front}
use Rattle.slip.specs.declared.SlipJob.{SlipJob}
use Rattle.slip.specs.declared.SlipRefusal.{SlipRefusal}
use Rattle.slip.specs.Format.{job_in, answer_to}

pub record Rows : Type 0 where
  pub vertices : List Float
  pub triangles : List ℕ
  pub flags : List ℕ
  pub kinds : List ℕ
  pub faces : List ℕ
  pub coords : List Float

abbrev pub job_rows : List Float → List ℕ → List ℕ → List ℕ → List ℕ → List Float → Rows
job_rows v t f k n c = record { vertices = v; triangles = t; flags = f; kinds = k; faces = n; coords = c }

-- how many vertices, triangles and pieces there is room for: the whole records that all slices of each have
unfoldable pub vertex_slots : Rows → ℕ
vertex_slots b = min (length b.vertices / 3) (length b.flags)

unfoldable pub triangle_slots : Rows → ℕ
triangle_slots b = length b.triangles / 3

unfoldable pub piece_slots : Rows → ℕ
piece_slots b = min (length b.kinds) (min (length b.faces) (length b.coords / 6))

-- the job's lists stand at the fronts, and no other element changes
unfoldable pub filled : Job → Rows → Rows
unfolding put_in_front
filled j b =
    job_rows (put_in_front j.vertices b.vertices) (put_in_front j.triangles b.triangles) (put_in_front j.flags b.flags)
    (put_in_front j.kinds b.kinds) (put_in_front j.faces b.faces) (put_in_front j.coords b.coords)

-- a refusal changes nothing
unfoldable pub written : List ℕ → Result SlipJob SlipRefusal → Rows → Rows
unfolding job_in filled
written s (Ok job) b = filled (job_in s) b
written s (Err why) b = b

unfoldable pub slip_answer : List ℕ → Rows → Result SlipJob SlipRefusal
unfolding vertex_slots triangle_slots piece_slots answer_to
slip_answer s b = answer_to s (vertex_slots b) (triangle_slots b) (piece_slots b)

unfoldable pub reading : List ℕ → Rows → Result SlipJob SlipRefusal × Rows
unfolding written slip_answer
reading s b = (slip_answer s b, written s (slip_answer s b) b)
