-- `propagation::clipped` meets its contract. Assumes nothing.
use Rattle.propagation.specs.Propagate.{clipped_of}
use Rattle.propagation.proofs.clipped.Goals as goal

pub returns : goal.returns
unfolding clipped_of
returns c = rw (c.min-2.ensures, c.max-2.ensures, c.max.ensures, c.min.ensures)
