-- `face_distance::around` meets its contract. Assumes nothing.
use mathlib.Core.Path.{sym}
use Rattle.nat_laws.proofs.Tests.{holds}
use Rattle.float_laws.proofs.Order.{le_refl}
use Rattle.face_distance.proofs.Floors.{hypot_from_zero, skipped}
use Rattle.face_distance.proofs.around.Goals as goal

pub returns-then-d-straight : goal.returns-then-d-straight
returns-then-d-straight c =
    sym (skipped _ _ _ _ _ (hypot_from_zero _ _) c.leg-straight.ensures.1 c.edge_floor.ensures (holds _ c.if-d-straight.true))

pub returns-then-d-straight-2 : goal.returns-then-d-straight-2
returns-then-d-straight-2 c =
    sym (skipped _ _ _ _ _ (hypot_from_zero _ _) c.leg-straight.ensures.1 (λ n m. rw c.edge-far.ensures (le_refl _ m)) (holds _ c.if-d-straight-2.true))

pub returns : goal.returns
returns c = rw (c.min.ensures, c.hypot.ensures, c.edge-far.ensures)
