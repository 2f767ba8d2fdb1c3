-- `propagation::emit` meets its contract. Assumes nothing.
use Rattle.propagation.specs.Propagate.{emit_of}
use Rattle.propagation.proofs.emit.Goals as goal

pub returns : goal.returns
unfolding emit_of
returns c = rw c.point_source.ensures
