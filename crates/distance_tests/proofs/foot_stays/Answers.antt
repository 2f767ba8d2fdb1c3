-- `distance_tests::foot_stays` meets its contract. Assumes nothing.
use mathlib.Core.Path.{sym, subst}
use lib.Dec.{T}
use Rattle.nat_laws.proofs.Tests.{holds}
use Rattle.distance_tests.proofs.Foot.{foot_point, foot_line}
use Rattle.distance_tests.proofs.foot_stays.Goals as goal

pub returns-then-sx-x : goal.returns-then-sx-x
returns-then-sx-x c = λ k.
    rw c.in-Point.is (foot_point _ _ _ c.args.x (subst T (sym c.well_formed.1.0.1) tt) (holds _ c.if-sx-x.true))

pub returns-then-x : goal.returns-then-x
returns-then-x c = λ k.
    rw c.in-Line.is (foot_line _ _ _ c.args.x (subst T (sym c.well_formed.1.0.1) tt) (holds _ c.if-ux.true) (holds _ c.if-x.true))

pub returns-then-ux : goal.returns-then-ux
returns-then-ux c = λ k. absurd k

pub returns-else-sx-x : goal.returns-else-sx-x
returns-else-sx-x c = λ k. absurd k

pub returns-else-ux : goal.returns-else-ux
returns-else-ux c = λ k. absurd k
