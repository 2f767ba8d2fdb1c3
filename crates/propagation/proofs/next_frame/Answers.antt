-- `propagation::next_frame` meets its contract. Assumes nothing.
use Rattle.propagation.specs.Plane.{frame_of}
use Rattle.propagation.proofs.next_frame.Goals as goal

pub returns : goal.returns
unfolding frame_of
returns c = rw (c.frame_between.ensures, c.position-rest.ensures, c.rest.ensures, c.position-qq.ensures, c.position-o.ensures)
