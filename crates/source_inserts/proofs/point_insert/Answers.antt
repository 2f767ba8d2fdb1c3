-- `source_inserts::point_insert` meets its contract. Assumes nothing.
use Rattle.source_inserts.proofs.Steps.{point_entry, point_side}
use Rattle.source_inserts.proofs.point_insert.Goals as goal

pub returns-then-i-eq0 : goal.returns-then-i-eq0
returns-then-i-eq0 c =
    let a = c.args in
    point_entry a.vertices.now a.edge_words.now a.edge_reals.now a.triangle_words.now a.triangle_reals.now a.vertex_words.now a.round.now a.kinds.now a.faces.now a.coords.now a.piece_words.now a.piece_reals.now a.pieces
    a.f.0 a.p a.c a.piece a.part a.first a.i c.carrier_face-g.result c.carrier_face-g.ensures c.if-i-eq0.true

pub returns : goal.returns
returns c =
    let a = c.args in
    point_side a.vertices.now a.edge_words.now a.edge_reals.now a.triangle_words.now a.triangle_reals.now a.vertex_words.now a.round.now a.kinds.now a.faces.now a.coords.now a.piece_words.now a.piece_reals.now a.pieces
    a.f.0 a.p a.c a.piece a.part a.first a.i c.carrier_face-g.result c.carrier_face-g.ensures c.if-i-eq0.false c.point_side-o.result c.point_side-o.ensures
