-- `source_offers::point_offer` meets its contract. Assumes nothing.
use Rattle.source_offers.proofs.Steps.{point_narrow}
use Rattle.source_offers.proofs.point_offer.Goals as goal

pub returns-then-too_narrow : goal.returns-then-too_narrow
returns-then-too_narrow c =
    let a = c.args in
    point_narrow a.vertices.now a.edge_words.now a.edge_reals.now a.triangle_words.now a.triangle_reals.now a.f.0 a.k c.side-e.result c.side-e.ensures a.p a.w c.length.result c.length.ensures c.too_narrow.result c.too_narrow.ensures c.if-too_narrow.true
