use mathlib.Core.Path.{ap}
use borrow.Author.Tests.{le-leb, lt-leb}
use Rattle.queries.specs.Queries.{vertex_answer}
use Rattle.std.specs.declared.result.Result.TheVariants.{Ok}
use Rattle.queries.proofs.Checked.{taken, left}
use Rattle.queries.proofs.vertex_answer.Goals as goal

pub returns-then-n-k : goal.returns-then-n-k
unfolding vertex_answer
returns-then-n-k c = taken _ _ _ (le-leb _ _ c.if-n-k.true)

pub returns : goal.returns
unfolding vertex_answer
returns c = left _ _ _ _ (lt-leb _ _ c.if-n-k.false) (ap Ok c.distance.ensures)
