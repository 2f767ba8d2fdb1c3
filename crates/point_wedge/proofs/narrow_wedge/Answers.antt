-- `point_wedge::narrow_wedge` meets its contract. Assumes nothing.
use Rattle.point_wedge.proofs.Steps.{wedge_one, wedge_two, wedge_more}
use Rattle.point_wedge.proofs.narrow_wedge.Goals as goal

pub returns-then-count-eq1 : goal.returns-then-count-eq1
returns-then-count-eq1 c =
    let a = c.args in
    wedge_one a.edge_words.now a.edge_reals.now a.triangle_words.now a.triangle_reals.now a.kinds.now a.faces.now a.coords.now a.words.now a.reals.now a.pieces a.g.0 a.first a.o a.p a.xhat a.w a.count a.h.0 c.if-count-eq1.true c.narrow_behind.result c.narrow_behind.ensures

pub returns-then-count-eq2 : goal.returns-then-count-eq2
returns-then-count-eq2 c =
    let a = c.args in
    wedge_two a.edge_words.now a.edge_reals.now a.triangle_words.now a.triangle_reals.now a.kinds.now a.faces.now a.coords.now a.words.now a.reals.now a.pieces a.g.0 a.first a.o a.p a.xhat a.w a.count a.h.0 c.if-count-eq1.false c.if-count-eq2.true c.narrow_pair.result c.narrow_pair.ensures

pub returns : goal.returns
returns c =
    let a = c.args in
    wedge_more a.edge_words.now a.edge_reals.now a.triangle_words.now a.triangle_reals.now a.kinds.now a.faces.now a.coords.now a.words.now a.reals.now a.pieces a.g.0 a.first a.o a.p a.xhat a.w a.count a.h.0 c.if-count-eq1.false c.if-count-eq2.false
