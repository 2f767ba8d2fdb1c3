use mathlib.Core.Path.{refl}
use Rattle.vec3.specs.Vec.{scale_of}
use Rattle.vec3.proofs.scale.Goals as goal

pub returns : goal.returns
unfolding scale_of
returns c = refl
