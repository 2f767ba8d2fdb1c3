-- `spread_offers::find_opposite` meets its contract. Assumes nothing.
use Rattle.spread_offers.specs.Spreading.{opposite_at}
use Rattle.spread_offers.proofs.Steps.{opposite_is}
use Rattle.spread_offers.proofs.find_opposite.Goals as goal

pub returns-in-Window : goal.returns-in-Window
returns-in-Window c =
    let a = c.args in
    rw c.in-Window.is
    (opposite_is a.vertices.now a.edge_words.now a.edge_reals.now a.triangle_words.now a.triangle_reals.now a.triangles.now _ _ _ _ _ c.third-c.result c.third-c.ensures c.face_ahead-ahead.result c.face_ahead-ahead.ensures)

pub returns-in-Vertex : goal.returns-in-Vertex
unfolding opposite_at
returns-in-Vertex c = rw c.in-Vertex.is
