-- `distance_tests::is_beyond` meets its contract. Assumes nothing.

use Rattle.distance_tests.proofs.is_beyond.Goals as goal

pub returns-then-x-b0 : goal.returns-then-x-b0
returns-then-x-b0 c = rw c.if-x-b0.true

pub returns-then-b1-x : goal.returns-then-b1-x
returns-then-b1-x c = rw (c.if-x-b0.false, c.if-b1-x.true)

pub returns : goal.returns
returns c = rw (c.if-x-b0.false, c.if-b1-x.false)
