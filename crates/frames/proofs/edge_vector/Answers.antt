use mathlib.Core.Path.{◌∙◌}
use Rattle.vec3.specs.Vec.{sub_of}
use Rattle.frames.proofs.edge_vector.Goals as goal

pub returns : goal.returns
returns c = c.sub.ensures ∙ (λ i. sub_of (c.end-b.ensures i) (c.origin-o.ensures i))
