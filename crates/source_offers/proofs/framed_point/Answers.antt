-- `source_offers::framed_point` meets its contract. Assumes nothing.
use Rattle.source_offers.proofs.Steps.{point_on_lem, point_off}
use Rattle.source_offers.proofs.framed_point.Goals as goal

pub returns-then-lies_on : goal.returns-then-lies_on
returns-then-lies_on c =
    let a = c.args in
    point_on_lem a.vertices.now a.edge_words.now a.edge_reals.now a.triangle_words.now a.triangle_reals.now a.f.0 a.k c.side-e.result c.length-l.result c.no_face.result c.side-e.ensures c.length-l.ensures a.p a.w c.coords-c.result c.coords-c.ensures
    c.point_window-range.result c.point_window-range.ensures c.lies_on.result c.lies_on.ensures c.if-lies_on.true c.no_face.ensures c.offered.result c.offered.ensures

pub returns : goal.returns
returns c =
    let a = c.args in
    point_off a.vertices.now a.edge_words.now a.edge_reals.now a.triangle_words.now a.triangle_reals.now a.f.0 a.k c.side-e.result c.length-l.result c.other-beyond.result c.side-e.ensures c.length-l.ensures a.p a.w c.coords-c.result c.coords-c.ensures
    c.point_window-range.result c.point_window-range.ensures c.lies_on.result c.lies_on.ensures c.if-lies_on.false c.other-beyond.ensures c.offered-2.result c.offered-2.ensures
