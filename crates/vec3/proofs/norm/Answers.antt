use mathlib.Core.Path.{ap, ◌∙◌}
use lib.Ieee.{binary64}
use Rattle.root_spec.specs.Root.{sqrt_of}
use Rattle.vec3.specs.Vec.{norm_of}
use Rattle.vec3.proofs.norm.Goals as goal

pub returns : goal.returns
unfolding norm_of
returns c = c.sqrt.ensures ∙ ap (sqrt_of binary64) c.dot.ensures
