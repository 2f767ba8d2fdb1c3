-- `source::ties_point_line` meets its contract. Assumes nothing.
use Rattle.source.specs.Distance.{ties_of_point_line}
use Rattle.source.proofs.ties_point_line.Goals as goal

pub returns : goal.returns
unfolding ties_of_point_line
returns c = c.roots.ensures
