use mathlib.Core.Path.{◌≡◌}
use mathlib.Core.Bool.{false}
use Rattle.job_checks.specs.Any.{any_below}
use Rattle.job_checks.specs.Refusals.{missing}
use Rattle.stl.proofs.any_missing.Given as goal

abbrev pub invariant-loop-v : goal.invariant-loop-v
invariant-loop-v l = any_below (missing l.count l.triangles) l.v-index ≡ false
