-- `propagation::part` meets its contract. Assumes nothing.
use Rattle.propagation.specs.Propagate.{part_of}
use Rattle.propagation.proofs.part.Goals as goal

pub returns-in-First : goal.returns-in-First
unfolding part_of
returns-in-First c = rw (c.in-First.is, c.min.ensures)

pub returns-in-Second : goal.returns-in-Second
unfolding part_of
returns-in-Second c = rw (c.in-Second.is, c.max.ensures)
