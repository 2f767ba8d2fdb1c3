-- `source_inserts::segment_insert` meets its contract. Assumes nothing.
use Rattle.source_inserts.proofs.Steps.{segment_entry, segment_side}
use Rattle.source_inserts.proofs.segment_insert.Goals as goal

pub returns-then-i-eq0 : goal.returns-then-i-eq0
returns-then-i-eq0 c =
    let a = c.args in
    segment_entry a.vertices.now a.edge_words.now a.edge_reals.now a.triangle_words.now a.triangle_reals.now a.f a.a a.b a.piece a.i c.if-i-eq0.true

pub returns : goal.returns
returns c =
    let a = c.args in
    segment_side a.vertices.now a.edge_words.now a.edge_reals.now a.triangle_words.now a.triangle_reals.now a.f a.a a.b a.piece a.i
    c.if-i-eq0.false c.normal_of-n.result c.normal_of-n.ensures c.segment_offer-o.result c.segment_offer-o.ensures
