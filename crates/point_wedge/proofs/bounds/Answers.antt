-- `point_wedge::bounds` meets its contract. Assumes nothing.
use Rattle.point_wedge.proofs.Steps.{bounds_is}
use Rattle.point_wedge.proofs.bounds.Goals as goal

pub returns : goal.returns
returns c =
    let a = c.args in
    bounds_is a.edge_words.now a.edge_reals.now a.triangle_words.now a.triangle_reals.now a.kinds.now a.faces.now a.coords.now a.words.now a.reals.now a.pieces a.g.0 a.vertices.now a.k a.p a.count a.h.0 a.first c.side-e.result c.ends.result c.vertex-o.result c.unit-xhat.result c.length.result c.whole_edge-whole.result c.narrow_wedge.result
    c.side-e.ensures c.ends.ensures c.vertex-o.ensures c.unit-xhat.ensures c.length.ensures c.whole_edge-whole.ensures c.narrow_wedge.ensures
