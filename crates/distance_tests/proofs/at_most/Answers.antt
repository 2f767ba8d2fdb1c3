-- `distance_tests::at_most` meets its contract. Assumes nothing.
use Rattle.nat_laws.proofs.Tests.{holds}
use Rattle.distance_tests.proofs.Told.{edge_most}
use Rattle.distance_tests.proofs.at_most.Goals as goal

pub returns-then-hi-s : goal.returns-then-hi-s
returns-then-hi-s c =
    let a = c.args in
    λ k. edge_most a.sx a.y a.s a.x _ a.d (c.hypot_upto.ensures k) (holds _ c.if-hi-s.true)

pub returns : goal.returns
returns c = λ k. absurd k
