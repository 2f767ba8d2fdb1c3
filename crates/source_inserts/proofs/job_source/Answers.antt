-- `source_inserts::job_source` meets its contract. Assumes nothing.
use Rattle.source_inserts.proofs.Steps.{source_whole, source_end}
use Rattle.source_inserts.proofs.job_source.Goals as goal

pub returns-then-k-eq2 : goal.returns-then-k-eq2
returns-then-k-eq2 c =
    let a = c.args in
    source_whole a.vertices.now a.edge_words.now a.edge_reals.now a.triangle_words.now a.triangle_reals.now a.kinds.now a.faces.now a.coords.now a.piece_words.now a.pieces a.j
    c.if-k-eq2.true c.segment_source.result c.segment_source.ensures

pub returns : goal.returns
returns c =
    let a = c.args in
    source_end a.vertices.now a.edge_words.now a.edge_reals.now a.triangle_words.now a.triangle_reals.now a.kinds.now a.faces.now a.coords.now a.piece_words.now a.pieces a.j
    c.if-k-eq2.false c.part_of-part.result c.part_of-part.ensures c.end_source.result c.end_source.ensures
