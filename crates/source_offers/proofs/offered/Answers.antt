-- `source_offers::offered` meets its contract. Assumes nothing.
use mathlib.Core.Path.{refl}
use Rattle.source_offers.specs.Offering.{offered}
use Rattle.source_offers.proofs.offered.Goals as goal

pub returns-in-None : goal.returns-in-None
unfolding offered
returns-in-None c = rw c.in-None.is refl

pub returns-in-Some : goal.returns-in-Some
unfolding offered
returns-in-Some c = rw c.in-Some.is refl
