-- `source_offers::along` meets its contract. Assumes nothing.
use Rattle.source_offers.specs.Offering.{along_at}
use Rattle.source_offers.proofs.along.Goals as goal

pub returns : goal.returns
unfolding along_at
returns c = rw (c.dot.ensures, c.unit.ensures, c.sub.ensures, c.vertex-o.ensures, c.ends.ensures)
