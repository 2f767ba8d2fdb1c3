use mathlib.Core.Path.{refl}
use Rattle.vec3.specs.Vec.{axpy_of}
use Rattle.vec3.proofs.axpy.Goals as goal

pub returns : goal.returns
unfolding axpy_of
returns c = refl
