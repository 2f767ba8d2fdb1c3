-- `source_windows::ahead` meets its contract. Assumes nothing.
use Rattle.source_windows.specs.Segment.{ahead_of}
use Rattle.source_windows.proofs.ahead.Goals as goal

pub returns-then-nx : goal.returns-then-nx
unfolding ahead_of
returns-then-nx c = rw (c.if-nx.true, c.max.ensures)

pub returns-then-nx-2 : goal.returns-then-nx-2
unfolding ahead_of
returns-then-nx-2 c = rw (c.if-nx.false, c.if-nx-2.true, c.min.ensures)

pub returns : goal.returns
unfolding ahead_of
returns c = rw (c.if-nx.false, c.if-nx-2.false)
