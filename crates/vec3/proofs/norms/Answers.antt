use mathlib.Core.Path.{◌≡◌, ap, ◌∙◌}
use lib.Ieee.{Float, binary64}
use Rattle.root_spec.specs.Root.{sqrt_of}
use Rattle.vec3.specs.declared.Vec3.{Vec3}
use Rattle.vec3.specs.Vec.{dot_of, norm_of}
use Rattle.vec3.proofs.norms.Goals as goal

root : (r d : Float) (a : Vec3) → r ≡ sqrt_of binary64 d → d ≡ dot_of a a → r ≡ norm_of a
unfolding norm_of
root r d a e f = e ∙ ap (sqrt_of binary64) f

pub returns : goal.returns
returns c = let r = c.three_sqrts.ensures in (root _ _ _ r.0 c.dot.ensures, (root _ _ _ r.1.0 c.dot-2.ensures, root _ _ _ r.1.1 c.dot-3.ensures))
