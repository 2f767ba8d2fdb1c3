-- What the functions between the slip and its print-out hand on. Definitions only.
use Rattle.std.specs.Prelude.{ℕ, ◌*◌, min, List, length, take}
use Rattle.job_checks.specs.Job.{Job, job}
use Rattle.computed.specs.declared.Computed.{Computed}
use Rattle.computed.specs.declared.Computed.TheVariants as computed
use Rattle.slip.specs.declared.SlipJob.{SlipJob}
use Rattle.slip.specs.Reading.{Rows}

-- the windows made; none of a refused job
unfoldable pub windows_told : Computed → ℕ
windows_told (computed.Refused k) = 0
windows_told (computed.Field f) = f.windows

-- the front of a list: n elements, or all where it has fewer
abbrev pub front : {A : Type 0} → ℕ → List A → List A
front n l = take (min n (length l)) l

-- the job whose lists stand at the fronts, of so many vertices, triangles and pieces
abbrev pub front_job : SlipJob → Rows → Job
front_job n b =
    job (front (3 * n.vertices) b.vertices) (front (3 * n.triangles) b.triangles) (front n.vertices b.flags)
    (front n.pieces b.kinds) (front n.pieces b.faces) (front (6 * n.pieces) b.coords) n.limit
