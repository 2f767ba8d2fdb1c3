use mathlib.Core.Path.{refl}
use Rattle.vec3.specs.Vec.{dot_of}
use Rattle.vec3.proofs.dot.Goals as goal

pub returns : goal.returns
unfolding dot_of
returns c = refl
