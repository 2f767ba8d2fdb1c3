-- `spread_offers::emit_offer` meets its contract. Assumes nothing.
use Rattle.spread_offers.proofs.Steps.{emit_none, emit_is}
use Rattle.spread_offers.proofs.emit_offer.Goals as goal

pub returns-then-at_end : goal.returns-then-at_end
returns-then-at_end c =
    let a = c.args in
    emit_none a.vertices.now a.edge_words.now a.edge_reals.now a.triangle_words.now a.triangle_reals.now a.g.0 a.k a.vx.0 a.d c.side-e.result c.side-e.ensures c.at_end.result c.at_end.ensures c.if-at_end.true

pub returns : goal.returns
returns c =
    let a = c.args in
    emit_is a.vertices.now a.edge_words.now a.edge_reals.now a.triangle_words.now a.triangle_reals.now a.g.0 a.k a.vx.0 a.d c.side-e.result c.side-e.ensures c.at_end.result c.at_end.ensures c.if-at_end.false
    c.length-l.result c.length-l.ensures c.vertex.result c.vertex.ensures c.coords-p.result c.coords-p.ensures c.emit-range.result c.emit-range.ensures
    c.other-beyond.result c.other-beyond.ensures c.offered.result c.offered.ensures
