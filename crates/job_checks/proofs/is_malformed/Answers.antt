-- `job_checks::is_malformed` meets its contract. Assumes nothing.
use Rattle.std.proofs.Common.{arith}
use Rattle.std.proofs.lemmas.Bool.Decides.{nat_tests}
use Rattle.job_checks.specs.Any.{any_of}
use Rattle.job_checks.specs.Refusals.{malformed}
use Rattle.job_checks.proofs.is_malformed.Goals as goal

pub returns-then-any_above_one : goal.returns-then-any_above_one
unfolding malformed any_of
returns-then-any_above_one c = grind (arith, nat_tests)

pub returns-else-any_above_one : goal.returns-else-any_above_one
unfolding malformed any_of
returns-else-any_above_one c = grind (arith, nat_tests)
