-- `source::foot` meets its contract. Assumes nothing.
use Rattle.source.specs.Distance.{foot_of}
use Rattle.source.proofs.foot.Goals as goal

pub returns-then-k : goal.returns-then-k
unfolding foot_of
returns-then-k c = rw (c.in-Point.is, c.if-k.true)

pub returns-then-uy : goal.returns-then-uy
unfolding foot_of
returns-then-uy c = rw (c.in-Line.is, c.if-uy.true)

pub returns-else-k : goal.returns-else-k
unfolding foot_of
returns-else-k c = rw (c.in-Point.is, c.if-k.false)

pub returns-else-uy : goal.returns-else-uy
unfolding foot_of
returns-else-uy c = rw (c.in-Line.is, c.if-uy.false)
