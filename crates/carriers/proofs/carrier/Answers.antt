-- `carriers::carrier` meets its contract. Assumes nothing.
use Rattle.carriers.proofs.Steps.{carrier_is}
use Rattle.carriers.proofs.carrier.Goals as goal

pub returns : goal.returns
returns c = carrier_is _ _ _ _ _ _ _ _ _ _ _ c.on_side-a.ensures c.on_side-b.ensures c.on_side-c.ensures c.simplex.ensures
