-- The work on a job whose mesh is made, on values: refusal 11, the insertion of its pieces, the main loop within its budget. Definitions only.
use Rattle.std.specs.Prelude.{ℕ, List, [], ◌++◌, length, if◌then◌else◌}
use Rattle.windows.specs.Windows.{capacity_of}
use Rattle.job_checks.specs.Job.{Job}
use Rattle.run_steps.specs.of_cut_lists.Buffers.{Cuts}
use Rattle.run_steps.specs.of_insertion.Insertion.{Inserted, InsertResult, stopped, went}
use Rattle.run_steps.specs.of_begin.Begin.{WorkSlices}
use Rattle.run_steps.specs.of_insert_job.Field.{inserts_of, inserted_field}
use Rattle.run_steps.specs.of_advance.Advance.{advance_candidates}
use Rattle.run_steps.specs.of_source_inserts.Inserts.{candidates_in}
use Rattle.run_steps.specs.of_trim_model.Model.{Candidate}
use Rattle.run_steps.specs.of_insert_job.Job.{wedge_in}
use Rattle.run_steps.specs.Run.{WorkResult, refused, loop_of}

-- what there is no slot for stops it
unfoldable pub and_loop : InsertResult → (Inserted → WorkResult) → WorkResult
and_loop (stopped k) loop = refused k
and_loop (went x) loop = loop x

-- those of the turns, where insertion goes to its end
unfoldable pub then_offered : InsertResult → (Inserted → List Candidate) → List Candidate
then_offered (stopped k) turns = []
then_offered (went x) turns = turns x

-- in slices s and c as they are lent; `flags` are the vertices' words, `most` is the step budget
abbrev pub work_of : Job → List ℕ → WorkSlices → Cuts → ℕ → WorkResult
work_of j flags s c most =
    if wedge_in j then refused 11 else
    and_loop (inserted_field j flags s c)
    (loop_of (length c.pts) (capacity_of (length s.words) (length s.reals)) j.limit flags j.vertices j.triangles most)

-- all candidates that the job offers to edges, in order: those of its pieces, then those of the turns. Demand 3 is of these.
abbrev pub work_candidates : Job → List ℕ → WorkSlices → Cuts → ℕ → List Candidate
work_candidates j flags s c most =
    candidates_in (inserts_of j)
    ++ then_offered (inserted_field j flags s c)
    (λ (x : Inserted). advance_candidates (length c.pts) (capacity_of (length s.words) (length s.reals)) j.limit flags j.vertices j.triangles most x.state)
