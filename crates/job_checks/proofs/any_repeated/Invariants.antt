use mathlib.Core.Path.{◌≡◌}
use mathlib.Core.Bool.{false}
use Rattle.job_checks.specs.Any.{any_below}
use Rattle.job_checks.specs.Refusals.{repeated_in}
use Rattle.job_checks.proofs.any_repeated.Given as goal

abbrev pub invariant-loop-t : goal.invariant-loop-t
invariant-loop-t l = any_below (repeated_in l.triangles) l.t ≡ false
