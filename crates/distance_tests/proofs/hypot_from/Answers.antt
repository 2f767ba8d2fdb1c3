-- `distance_tests::hypot_from` meets its contract. Assumes nothing.
use mathlib.Core.Path.{sym, subst}
use lib.Dec.{T}
use Rattle.nat_laws.proofs.Tests.{holds}
use Rattle.distance_tests.proofs.Told.{hypot_least}
use Rattle.distance_tests.proofs.hypot_from.Goals as goal

pub returns-then-z-2 : goal.returns-then-z-2
returns-then-z-2 c =
    let a = c.args in
    λ k.
    hypot_least a.d a.y (subst T (sym c.well_formed.0.1) tt) (subst T (sym c.well_formed.1.0.1) tt) (holds _ c.if-z.true)
    a.lo (subst T (sym c.well_formed.1.1.0.1) tt) (holds _ c.if-lo-z.true) (holds _ c.if-z-2.true)

pub returns-else-z-2 : goal.returns-else-z-2
returns-else-z-2 c = λ k. absurd k

pub returns-else-z : goal.returns-else-z
returns-else-z c = λ k. absurd k

pub returns-else-lo-z : goal.returns-else-lo-z
returns-else-lo-z c = λ k. absurd k
