-- `segments_behind::in_face` meets its contract. Assumes nothing.
use Rattle.segments_behind.proofs.Finding.{other_face, same_face}
use Rattle.segments_behind.proofs.in_face.Goals as goal

pub returns-then-f-g : goal.returns-then-f-g
returns-then-f-g c =
    let a = c.args in
    other_face a.kinds.now a.faces.now a.coords.now a.e _ c.face_of-f.ensures a.g.0 c.if-f-g.true

pub returns : goal.returns
returns c =
    let a = c.args in
    same_face a.kinds.now a.faces.now a.coords.now a.e _ c.face_of-f.ensures a.g.0 _ c.if-f-g.false c.is_long.ensures
