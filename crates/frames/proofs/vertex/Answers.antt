use mathlib.Core.Path.{◌∙◌}
use Rattle.frames.proofs.Turns.{vertex_is}
use Rattle.frames.proofs.vertex.Goals as goal

pub returns : goal.returns
returns c = c.vector.ensures ∙ vertex_is c.args.vertices.now c.args.k
