-- `spread_offers::face_ahead` meets its contract. Assumes nothing.
use Rattle.source_offers.proofs.laws_of_mesh_readers.Steps.{coords_of_lem}
use Rattle.spread_offers.proofs.Steps.{ahead_is}
use Rattle.spread_offers.proofs.face_ahead.Goals as goal

pub returns : goal.returns
returns c =
    let a = c.args in
    ahead_is a.vertices.now a.edge_words.now a.edge_reals.now a.triangle_words.now a.triangle_reals.now a.e.0 a.g.0 a.c.0 c.length-l.result c.length-l.ensures c.vertex.result c.vertex.ensures _
    (coords_of_lem _ _ _ _ _ _ _ _ _ _ _ _ _ _ _ _ (λ i. (c.ends-both.ensures i).a.0) c.vertex-2.ensures c.sub-w.ensures c.unit-xhat.ensures c.local.ensures c.normal-yhat.ensures c.dot.ensures c.dot-2.ensures)
