use mathlib.Core.Path.{◌≡◌}
use mathlib.Core.Bool.{false}
use Rattle.job_checks.specs.Any.{any_below}
use Rattle.stl_format.specs.Answers.{not_single}
use Rattle.stl.proofs.any_not_single.Given as goal

abbrev pub invariant-loop-x : goal.invariant-loop-x
invariant-loop-x l = any_below (not_single l.vertices) l.x-index ≡ false
