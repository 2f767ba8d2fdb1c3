-- `carriers::on_side` meets its contract. Assumes nothing.
use Rattle.carriers.proofs.Steps.{on_side_is}
use Rattle.carriers.proofs.on_side.Goals as goal

pub returns : goal.returns
returns c = on_side_is _ _ _ _ _ _ _ _ _ _ _ _ c.side-e.ensures c.coords-c.ensures c.length.ensures c.lies_on.ensures
