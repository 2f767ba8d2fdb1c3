-- `distance_tests::along` meets its contract. Assumes nothing.
use mathlib.Core.Path.{sym}
use lib.Ieee.{binary64}
use lib.Ieee.Fits.{sub-fits}
use Rattle.nat_laws.proofs.Tests.{holds}
use Rattle.face_distance.proofs.Floors.{hypot_from_zero, skipped}
use Rattle.distance_tests.proofs.Told.{way_along}
use Rattle.distance_tests.proofs.along.Goals as goal

pub returns-then-at_least : goal.returns-then-at_least
returns-then-at_least c =
    let a = c.args in
    sym (skipped _ _ _ _ _ (hypot_from_zero _ _) (λ n m. rw c.abs-way.ensures (way_along _ (sub-fits binary64 a.x a.q) (rw (← c.abs-way.ensures) n) m)) (c.at_least.ensures (holds _ c.if-at_least.true)) (holds _ c.if-d-way.true))

pub returns : goal.returns
returns c = rw (c.min.ensures, c.edge.ensures, c.hypot.ensures)
