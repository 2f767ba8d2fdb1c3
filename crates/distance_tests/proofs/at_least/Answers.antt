-- `distance_tests::at_least` meets its contract. Assumes nothing.
use Rattle.nat_laws.proofs.Tests.{holds}
use Rattle.source.specs.Distance.{edge_of}
use Rattle.distance_tests.proofs.Told.{edge_least}
use Rattle.distance_tests.proofs.at_least.Goals as goal

pub returns-then-d-lo : goal.returns-then-d-lo
returns-then-d-lo c = λ k. rw c.in-Point.is (edge_least _ _ _ _ _ _ (c.hypot_from.ensures k) (holds _ c.if-d-lo.true))

pub returns-then-d-c : goal.returns-then-d-c
unfolding edge_of
returns-then-d-c c = λ k. rw c.in-Line.is (λ n m. holds _ c.if-d-c.true)

pub returns-else-d-lo : goal.returns-else-d-lo
returns-else-d-lo c = λ k. absurd k

pub returns-else-d-c : goal.returns-else-d-c
returns-else-d-c c = λ k. absurd k
