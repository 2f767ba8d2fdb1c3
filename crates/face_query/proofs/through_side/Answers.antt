use Rattle.face_query.proofs.Steps.{side_is}
use Rattle.face_query.proofs.Lows.{side_far}
use Rattle.face_query.proofs.through_side.Goals as goal

pub returns-then-y-low : goal.returns-then-y-low
returns-then-y-low c =
    let a = c.args in
    side_is a.vertices.now a.edge_words.now a.edge_reals.now a.triangle_words.now a.triangle_reals.now a.words.now a.reals.now a.made a.f.0 a.p a.i a.d
    c.side-e.result c.coords-c.result c.max-y.result c.through_chain.result c.side-e.ensures c.coords-c.ensures c.max-y.ensures c.through_chain.ensures

-- its windows are passed over
pub returns : goal.returns
returns c =
    let a = c.args in
    side_is a.vertices.now a.edge_words.now a.edge_reals.now a.triangle_words.now a.triangle_reals.now a.words.now a.reals.now a.made a.f.0 a.p a.i a.d
    c.side-e.result c.coords-c.result c.max-y.result a.d c.side-e.ensures c.coords-c.ensures c.max-y.ensures
    (side_far a.edge_words.now a.triangle_words.now a.words.now a.reals.now a.made a.f.0 a.i c.side-e.result c.side-e.ensures a.low c.requires.1 c.coords-c.result.x c.max-y.result a.d c.if-y-low.false)
