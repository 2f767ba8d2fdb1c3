-- `point_wedge::laid` meets its contract. Assumes nothing.
use mathlib.Core.Path.{refl}
use Rattle.point_wedge.specs.Wedge.{laid_of}
use Rattle.point_wedge.proofs.laid.Goals as goal

pub returns-in-Own : goal.returns-in-Own
unfolding laid_of
returns-in-Own c = rw c.in-Own.is refl

pub returns-in-Across : goal.returns-in-Across
unfolding laid_of
returns-in-Across c = rw c.in-Across.is c.unfolded.ensures
