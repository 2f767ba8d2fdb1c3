-- `point_wedge::narrow_pair` meets its contract. Assumes nothing.
use Rattle.point_wedge.proofs.Steps.{pair_none, pair_both}
use Rattle.point_wedge.proofs.narrow_pair.Goals as goal

pub returns-then-i-eq3 : goal.returns-then-i-eq3
returns-then-i-eq3 c =
    let a = c.args in
    pair_none a.edge_words.now a.edge_reals.now a.triangle_words.now a.triangle_reals.now a.kinds.now a.faces.now a.coords.now a.words.now a.reals.now a.pieces a.g.0 a.first a.o a.p a.xhat a.w a.h.0 c.side_to-i.result c.side_to-i.ensures c.if-i-eq3.true

pub returns : goal.returns
returns c =
    let a = c.args in
    pair_both a.edge_words.now a.edge_reals.now a.triangle_words.now a.triangle_reals.now a.kinds.now a.faces.now a.coords.now a.words.now a.reals.now a.pieces a.g.0 a.first a.o a.p a.xhat a.w a.h.0 c.side_to-i.result c.side_to-i.ensures c.if-i-eq3.false
    c.side-e.result c.side-e.ensures c.across-plane.result c.across-plane.ensures c.narrow_behind-own.result c.narrow_behind.result c.narrow_behind-own.ensures c.narrow_behind.ensures
