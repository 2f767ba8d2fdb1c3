-- `job_checks::short_buffer` meets its contract. Assumes nothing.
use Rattle.std.proofs.Common.{arith}
use Rattle.std.proofs.lemmas.Bool.Decides.{nat_tests}
use Rattle.job_checks.specs.Any.{any_of}
use Rattle.job_checks.specs.Refusals.{is_too_short}
use Rattle.job_checks.proofs.short_buffer.Goals as goal

pub returns-then-buffers : goal.returns-then-buffers
unfolding is_too_short any_of
returns-then-buffers c = grind (arith, nat_tests)

pub returns-else-buffers : goal.returns-else-buffers
unfolding is_too_short any_of
returns-else-buffers c = grind (arith, nat_tests)
