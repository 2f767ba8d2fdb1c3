use mathlib.Core.Path.{ap, ◌∙◌}
use Rattle.face_query.specs.FaceDistance.{through_sides, to_pieces}
use Rattle.face_query.proofs.distance_in_face.Goals as goal

pub returns : goal.returns
returns c =
    let a = c.args in
    c.to_pieces.ensures
    ∙ ap (to_pieces a.coords.now a.triangle_words.now a.entry_words.now a.f.0 a.p)
    (c.through_sides-sides.ensures ∙ ap (through_sides a.vertices.now a.edge_words.now a.edge_reals.now a.triangle_words.now a.triangle_reals.now a.words.now a.reals.now a.made a.f.0 a.p) c.through_vertices-through.ensures)
