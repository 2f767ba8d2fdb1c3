-- `job_checks::repeated` meets its contract. Assumes nothing.
use Rattle.std.proofs.Common.{arith}
use Rattle.std.proofs.lemmas.Bool.Decides.{nat_tests}
use Rattle.job_checks.specs.Any.{any_of}
use Rattle.job_checks.specs.Refusals.{repeated}
use Rattle.job_checks.proofs.repeated.Goals as goal

pub returns-then-b-c : goal.returns-then-b-c
unfolding repeated any_of
returns-then-b-c c = grind (arith, nat_tests)

pub returns-else-b-c : goal.returns-else-b-c
unfolding repeated any_of
returns-else-b-c c = grind (arith, nat_tests)
