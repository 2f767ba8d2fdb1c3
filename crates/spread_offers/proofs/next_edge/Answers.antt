-- `spread_offers::next_edge` meets its contract. Assumes nothing.
use Rattle.spread_offers.proofs.Steps.{next_edge_is}
use Rattle.spread_offers.proofs.next_edge.Goals as goal

pub returns : goal.returns
returns c =
    let a = c.args in
    next_edge_is a.edge_words.now a.e.0 c.ends-both.result c.ends-both.ensures a.edge_reals.now a.ne.0 c.ends-next.result c.ends-next.ensures c.vertex_of-p.result c.vertex_of-q.result
    c.vertex_of-p.ensures c.vertex_of-q.ensures c.length-ln.result c.length-ln.ensures
