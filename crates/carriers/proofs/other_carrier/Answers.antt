-- `carriers::other_carrier` meets its contract. Assumes nothing.
use Rattle.carriers.proofs.Steps.{other_second, other_first}
use Rattle.carriers.proofs.other_carrier.Goals as goal

pub returns-then-first-g : goal.returns-then-first-g
returns-then-first-g c = other_second _ _ _ _ c.carrier_face-first.ensures c.if-first-g.true _ c.carrier_face.ensures

pub returns : goal.returns
returns c = other_first _ _ _ _ c.carrier_face-first.ensures c.if-first-g.false
