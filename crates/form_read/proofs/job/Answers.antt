-- `form_read::job` meets its contract. Assumes nothing.
use Rattle.form_read.specs.FormReading.{passed_answer}
use Rattle.form_read.proofs.job.Goals as goal

pub returns : goal.returns
unfolding passed_answer
returns c = rw c.double_at.ensures
