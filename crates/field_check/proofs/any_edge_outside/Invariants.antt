use mathlib.Core.Path.{◌≡◌}
use mathlib.Core.Bool.{false}
use Rattle.job_checks.specs.Any.{any_below}
use Rattle.field_check.specs.FieldCheck.{edge_outside}
use Rattle.field_check.proofs.any_edge_outside.Given as goal

abbrev pub invariant-loop-e : goal.invariant-loop-e
invariant-loop-e l = any_below (edge_outside l.n l.edge_words) l.e ≡ false
