-- `job_checks::wrong_counts` meets its contract. Assumes nothing.
use Rattle.std.proofs.Common.{arith}
use Rattle.std.proofs.lemmas.Bool.Decides.{nat_tests}
use Rattle.job_checks.specs.Any.{any_of}
use Rattle.job_checks.specs.Refusals.{wrong_counts}
use Rattle.job_checks.proofs.wrong_counts.Goals as goal

pub returns-then-faces-kinds : goal.returns-then-faces-kinds
unfolding wrong_counts any_of
returns-then-faces-kinds c = grind (arith, nat_tests)

pub returns-else-faces-kinds : goal.returns-else-faces-kinds
unfolding wrong_counts any_of
returns-else-faces-kinds c = grind (arith, nat_tests)
