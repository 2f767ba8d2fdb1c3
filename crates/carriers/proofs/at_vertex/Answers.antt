-- `carriers::at_vertex` meets its contract. Assumes nothing.
use Rattle.carriers.proofs.Steps.{at_vertex_is}
use Rattle.carriers.proofs.at_vertex.Goals as goal

pub returns : goal.returns
returns c = at_vertex_is _ _ _ _ _ _ c.side.ensures c.side-2.ensures c.shared_vertex.ensures
