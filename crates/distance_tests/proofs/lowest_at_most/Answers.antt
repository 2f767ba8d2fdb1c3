-- `distance_tests::lowest_at_most` meets its contract. Assumes nothing.
use Rattle.nat_laws.proofs.Tests.{holds}
use Rattle.distance_tests.proofs.Told.{lowest_first, lowest_last}
use Rattle.distance_tests.proofs.lowest_at_most.Goals as goal

pub returns-then-x-b0 : goal.returns-then-x-b0
returns-then-x-b0 c = λ k. rw c.in-Point.is (lowest_first _ _ _ _ _ _ (holds _ c.if-x-b0.true) (c.at_most.ensures k))

pub returns-then-b1-x : goal.returns-then-b1-x
returns-then-b1-x c = λ k. rw c.in-Point.is (lowest_last _ _ _ _ _ _ (holds _ c.if-b1-x.true) (c.at_most-then-b1-x.ensures k))

pub returns-else-b1-x : goal.returns-else-b1-x
returns-else-b1-x c = λ k. absurd k

pub returns-in-Line : goal.returns-in-Line
returns-in-Line c = λ k. absurd k
