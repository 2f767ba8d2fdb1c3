use mathlib.Core.Path.{◌≡◌}
use mathlib.Core.Bool.{false}
use Rattle.job_checks.specs.Any.{any_below}
use Rattle.field_check.specs.FieldCheck.{triangle_outside}
use Rattle.field_check.proofs.any_triangle_outside.Given as goal

abbrev pub invariant-loop-f : goal.invariant-loop-f
invariant-loop-f l = any_below (triangle_outside l.n l.entries l.triangle_words) l.f ≡ false
