-- `spread_offers::spread_offer` meets its contract. Assumes nothing.
use Rattle.spread_offers.specs.Spreading.{spread_offer_at}
use Rattle.spread_offers.proofs.spread_offer.Goals as goal

pub returns-in-Window : goal.returns-in-Window
unfolding spread_offer_at
returns-in-Window c = rw c.in-Window.is c.propagate_offer.ensures

pub returns-in-Vertex : goal.returns-in-Vertex
unfolding spread_offer_at
returns-in-Vertex c = rw c.in-Vertex.is c.round_offer.ensures
