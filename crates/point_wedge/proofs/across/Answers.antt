-- `point_wedge::across` meets its contract. Assumes nothing.
use Rattle.point_wedge.proofs.Steps.{across_is}
use Rattle.point_wedge.proofs.across.Goals as goal

pub returns : goal.returns
returns c =
    let a = c.args in
    across_is a.edge_reals.now a.triangle_words.now a.triangle_reals.now a.g.0 a.h.0 a.e.0 c.local-i.result c.local-j.result c.unit-xh.result c.normal-yg.result c.normal-yh.result
    c.unit-xh.ensures c.local-i.ensures c.normal-yg.ensures c.local-j.ensures c.normal-yh.ensures
