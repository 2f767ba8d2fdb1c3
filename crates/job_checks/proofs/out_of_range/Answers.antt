-- `job_checks::out_of_range` meets its contract. Assumes nothing.
use Rattle.job_checks.specs.Refusals.{out_of_range}
use Rattle.job_checks.proofs.out_of_range.Goals as goal
use Rattle.job_checks.proofs.out_of_range.Goals.{then-x, else-x}

pub returns : goal.returns
unfolding out_of_range
returns c = elim c.if-x.branch [ then-x w ↦ rw (w.result-is, w.if-x.true) | else-x w ↦ rw (w.result-is, w.if-x.false) ]
