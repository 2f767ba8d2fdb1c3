use mathlib.Core.Path.{ap, ◌∙◌}
use Rattle.face_query.specs.FaceDistance.{through_face_vertex, through_vertices}
use Rattle.face_query.proofs.Steps.{infinite}
use Rattle.face_query.proofs.through_vertices.Goals as goal

pub returns : goal.returns
unfolding through_vertices
returns c =
    let a = c.args in
    let through = through_face_vertex a.vertices.now a.triangles.now a.vertex.now a.f.0 a.p in
    c.through_face_vertex.ensures ∙ ap (through 2) (c.through_face_vertex-b.ensures ∙ ap (through 1) (c.through_face_vertex-a.ensures ∙ ap (through 0) infinite))
