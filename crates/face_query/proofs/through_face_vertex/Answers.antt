use Rattle.face_query.proofs.Steps.{face_vertex_is}
use Rattle.face_query.proofs.through_face_vertex.Goals as goal

pub returns : goal.returns
returns c =
    let a = c.args in
    face_vertex_is a.vertices.now a.triangles.now a.vertex.now a.f.0 a.p a.i a.d c.face_vertex-k.result c.vertex-v.result c.distance-far.result c.through_vertex.result c.min.result
    c.face_vertex-k.ensures c.vertex-v.ensures c.distance-far.ensures c.through_vertex.ensures c.min.ensures
