-- `source_inserts::point_side` meets its contract. Assumes nothing.
use Rattle.source_inserts.proofs.Steps.{side_is}
use Rattle.source_inserts.proofs.point_side.Goals as goal

pub returns : goal.returns
returns c =
    let a = c.args in
    side_is a.vertices.now a.edge_words.now a.edge_reals.now a.triangle_words.now a.triangle_reals.now a.vertex_words.now a.round.now a.kinds.now a.faces.now a.coords.now a.piece_words.now a.piece_reals.now a.pieces
    a.f.0 a.p a.c a.first a.g.0 a.k c.carrier_count-count.result c.other_carrier-h.result c.bounds-w.result c.point_offer.result
    c.carrier_count-count.ensures c.other_carrier-h.ensures c.bounds-w.ensures c.point_offer.ensures
