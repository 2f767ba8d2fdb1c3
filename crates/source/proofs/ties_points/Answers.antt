-- `source::ties_points` meets its contract. Assumes nothing.
use Rattle.source.specs.Distance.{ties_of_points}
use Rattle.source.proofs.ties_points.Goals as goal

pub returns-then-k1 : goal.returns-then-k1
unfolding ties_of_points
returns-then-k1 c = rw (c.if-b.true, c.if-k1.true)

pub returns-then-b : goal.returns-then-b
unfolding ties_of_points
returns-then-b c = rw (c.if-b.true, c.if-k1.false)

pub returns : goal.returns
unfolding ties_of_points
returns c = rw (c.if-b.false, c.roots.ensures)
