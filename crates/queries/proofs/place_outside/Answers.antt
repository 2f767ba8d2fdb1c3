use Rattle.queries.specs.Queries.{place_outside}
use Rattle.queries.proofs.place_outside.Goals as goal

pub returns-then-x-len : goal.returns-then-x-len
unfolding place_outside
returns-then-x-len c = rw (c.if-x.true, c.if-x-len.true)

pub returns-then-x : goal.returns-then-x
unfolding place_outside
returns-then-x c = rw (c.if-x.true, c.if-x-len.false)

pub returns : goal.returns
unfolding place_outside
returns c = rw c.if-x.false
