use mathlib.Core.Path.{refl}
use Rattle.vec3.specs.Vec.{cross_of}
use Rattle.vec3.proofs.cross.Goals as goal

pub returns : goal.returns
unfolding cross_of
returns c = refl
