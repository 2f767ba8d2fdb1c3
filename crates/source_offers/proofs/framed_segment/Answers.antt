-- `source_offers::framed_segment` meets its contract. Assumes nothing.
use Rattle.source_offers.proofs.Steps.{segment_is}
use Rattle.source_offers.proofs.framed_segment.Goals as goal

pub returns : goal.returns
returns c =
    let a = c.args in
    segment_is a.vertices.now a.edge_words.now a.edge_reals.now a.triangle_words.now a.triangle_reals.now a.f.0 a.k c.side-e.result c.length-l.result c.other-beyond.result c.side-e.ensures c.length-l.ensures a.a a.b a.n c.coords-p.result c.coords-q.result
    c.coords-p.ensures c.coords-q.ensures c.in_frame-s.result c.in_frame-s.ensures c.segment_window-w.result c.segment_window-w.ensures c.other-beyond.ensures c.offered.result c.offered.ensures
