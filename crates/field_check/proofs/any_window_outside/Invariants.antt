use mathlib.Core.Path.{◌≡◌}
use mathlib.Core.Bool.{false}
use Rattle.job_checks.specs.Any.{any_below}
use Rattle.field_check.specs.FieldCheck.{window_outside}
use Rattle.field_check.proofs.any_window_outside.Given as goal

abbrev pub invariant-loop-i : goal.invariant-loop-i
invariant-loop-i l = any_below (window_outside l.n l.words) l.i ≡ false
