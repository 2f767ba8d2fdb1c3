use mathlib.Core.Path.{refl}
use Rattle.vec3.specs.Vec.{sub_of}
use Rattle.vec3.proofs.sub.Goals as goal

pub returns : goal.returns
unfolding sub_of
returns c = refl
