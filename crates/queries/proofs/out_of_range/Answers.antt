use Rattle.job_checks.specs.Refusals.{out_of_range}
use Rattle.queries.proofs.out_of_range.Goals as goal

pub returns-then-x-2 : goal.returns-then-x-2
unfolding out_of_range
returns-then-x-2 c = rw (c.if-x.true, c.if-x-2.true)

pub returns-then-x : goal.returns-then-x
unfolding out_of_range
returns-then-x c = rw (c.if-x.true, c.if-x-2.false)

pub returns : goal.returns
unfolding out_of_range
returns c = rw c.if-x.false
