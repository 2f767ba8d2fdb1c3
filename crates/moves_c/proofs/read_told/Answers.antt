-- `moves_c::read_told` meets its contract. Assumes nothing.
use Rattle.moves_c.specs.Exports.{read_told, form_read}
use mathlib.Core.Path.{ap, ◌∙◌}
use Rattle.moves_c.proofs.read_told.Goals as goal

pub shape_of-vertices : goal.shape_of-vertices
shape_of-vertices c =
    c.read-answer.auto.vertices

pub shape_of-triangles : goal.shape_of-triangles
shape_of-triangles c =
    c.read-answer.auto.triangles

pub shape_of-flags : goal.shape_of-flags
shape_of-flags c =
    c.read-answer.auto.flags

pub shape_of-kinds : goal.shape_of-kinds
shape_of-kinds c =
    c.read-answer.auto.kinds

pub shape_of-faces : goal.shape_of-faces
shape_of-faces c =
    c.read-answer.auto.faces

pub shape_of-coords : goal.shape_of-coords
shape_of-coords c =
    c.read-answer.auto.coords

pub shape_of-told : goal.shape_of-told
shape_of-told c = c.tell_read.auto.told

pub shape_of-limit : goal.shape_of-limit
shape_of-limit c = c.tell_read.auto.limit

pub returns : goal.returns
unfolding form_read
returns c =
    let reads = c.read-answer.ensures in
    let tells = c.tell_read.ensures ∙ ap (λ q. read_told q.0 c.args.told.now c.args.limit.now) reads in
    λ i. ((tells i).0, ((reads i).1, (tells i).1))
