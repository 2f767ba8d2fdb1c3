-- `job_checks::degenerate_triangle` meets its contract. Assumes nothing.
use Rattle.std.proofs.Common.{arith}
use Rattle.std.proofs.lemmas.Bool.Decides.{nat_tests}
use Rattle.job_checks.specs.Any.{any_of}
use Rattle.job_checks.specs.Refusals.{degenerate_in}
use Rattle.job_checks.proofs.degenerate_triangle.Goals as goal

pub returns-then-degenerate_edge-2 : goal.returns-then-degenerate_edge-2
unfolding degenerate_in any_of
returns-then-degenerate_edge-2 c = grind (arith, nat_tests)

pub returns-else-degenerate_edge-2 : goal.returns-else-degenerate_edge-2
unfolding degenerate_in any_of
returns-else-degenerate_edge-2 c = grind (arith, nat_tests)
