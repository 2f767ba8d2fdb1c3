-- `spread_offers::propagate_offer` meets its contract. Assumes nothing.
use Rattle.spread_offers.proofs.Steps.{propagate_is}
use Rattle.spread_offers.proofs.propagate_offer.Goals as goal

pub returns : goal.returns
returns c =
    let a = c.args in
    propagate_is a.edge_words.now a.edge_reals.now a.triangle_words.now a.o a.e.0 a.g.0 a.b0 a.b1 a.src a.k
    c.side_number-side.result c.side_number-side.ensures c.side_end-from.result c.side_end-from.ensures c.edge_between-ne.result c.edge_between-ne.ensures
    c.next_edge-next.result c.next_edge-next.ensures c.propagate-range.result c.propagate-range.ensures c.other-beyond.result c.other-beyond.ensures c.offered.result c.offered.ensures
