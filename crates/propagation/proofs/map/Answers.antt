-- `propagation::map` meets its contract. Assumes nothing.
use Rattle.propagation.specs.Plane.{map_to}
use Rattle.propagation.proofs.map.Goals as goal

pub returns : goal.returns
unfolding map_to
returns c = c.turn.ensures
