-- `job_checks::limit_out_of_range` meets its contract. Assumes nothing.
use Rattle.job_checks.specs.Refusals.{limit_outside}
use Rattle.job_checks.proofs.limit_out_of_range.Goals as goal
use Rattle.job_checks.proofs.limit_out_of_range.Goals.{then-limit, else-limit}

pub returns : goal.returns
unfolding limit_outside
returns c = elim c.if-limit.branch [ then-limit w ↦ rw (w.result-is, w.if-limit.true) | else-limit w ↦ rw (w.result-is, w.if-limit.false) ]
