-- What a caller in C or Rust is told of a job. Definitions only.
use Rattle.std.specs.Prelude.{ℕ, List, ◌≡◌, set}
use Rattle.job_checks.specs.Job.{Job}
use Rattle.compute.specs.of_finish.Contents.{FieldBuffers}
use Rattle.computed.specs.declared.Computed.{Computed}
use Rattle.computed.specs.declared.Computed.TheVariants.{Refused, Field}
use Rattle.compute.specs.of_field_model.Queue.{queue_in_order}
use Rattle.compute.specs.of_field_model.Lent.{ComputesOver}

-- the number that is answered, and what six numbers then hold, as far as they are lent
unfoldable pub field_told : Computed → List ℕ → ℕ × List ℕ
field_told (Refused k) t = (k, t)
field_told (Field f) t = (0, set (set (set (set (set (set t 0 f.vertices) 1 f.triangles) 2 f.pieces) 3 f.edges) 4 f.windows) 5 f.steps)

-- the job is computed, and its answer told
pub record ToldOf (j : Job) (b : FieldBuffers) (most : ℕ) (told : List ℕ) (r : ℕ) (b' : FieldBuffers) (told' : List ℕ) : Type 0 where
  pub answer : Computed
  pub computes : ComputesOver queue_in_order j b most answer b'
  pub tells : (r, told') ≡ field_told answer told
