-- `source_offers::segment_offer` meets its contract. Assumes nothing.
use Rattle.source_offers.proofs.Steps.{segment_back}
use Rattle.source_offers.proofs.segment_offer.Goals as goal

pub returns-then-goes_back : goal.returns-then-goes_back
returns-then-goes_back c =
    let a = c.args in
    segment_back a.vertices.now a.edge_words.now a.edge_reals.now a.triangle_words.now a.triangle_reals.now a.f.0 a.k c.side-e.result c.side-e.ensures a.a a.b a.n c.along-ax.result c.along-bx.result c.along-ax.ensures c.along-bx.ensures
    c.goes_back.result c.goes_back.ensures c.if-goes_back.true
