-- `distance_tests::hypot_upto` meets its contract. Assumes nothing.
use mathlib.Core.Path.{sym, subst}
use lib.Dec.{T}
use Rattle.nat_laws.proofs.Tests.{holds}
use Rattle.distance_tests.proofs.Told.{hypot_most}
use Rattle.distance_tests.proofs.hypot_upto.Goals as goal

pub returns-then-hi-2 : goal.returns-then-hi-2
returns-then-hi-2 c =
    let a = c.args in
    λ k.
    hypot_most a.d a.y (subst T (sym c.well_formed.0.1) tt) (subst T (sym c.well_formed.1.0.1) tt) (holds _ c.if-z.true)
    a.hi (subst T (sym c.well_formed.1.1.0.1) tt) (holds _ c.if-z-hi.true) (holds _ c.if-hi.true) (holds _ c.if-hi-2.true)

pub returns-else-hi-2 : goal.returns-else-hi-2
returns-else-hi-2 c = λ k. absurd k

pub returns-else-hi : goal.returns-else-hi
returns-else-hi c = λ k. absurd k

pub returns-else-z : goal.returns-else-z
returns-else-z c = λ k. absurd k

pub returns-else-z-hi : goal.returns-else-z-hi
returns-else-z-hi c = λ k. absurd k
