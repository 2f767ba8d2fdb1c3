use Rattle.frames.proofs.Turns.{perpendicular_steps}
use Rattle.frames.proofs.perpendicular.Goals as goal

pub returns : goal.returns
returns c =
    let a = c.args in
    perpendicular_steps a.vertices.now a.edge_reals.now a.e a.a a.b _ a.third _ _ _ _ _ _ c.lower_of.ensures c.vertex-o.ensures c.vector-xhat.ensures c.vertex.ensures c.sub-w.ensures c.dot.ensures c.axpy.ensures
