-- `propagation::frame_between` meets its contract. Assumes nothing.
use Rattle.propagation.specs.Plane.{frame_between}
use Rattle.propagation.proofs.frame_between.Goals as goal

pub returns : goal.returns
unfolding frame_between
returns c = rw c.across-yh.ensures
