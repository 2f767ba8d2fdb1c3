-- `source::lowest` meets its contract. Assumes nothing.
use Rattle.source.specs.Distance.{lowest_of}
use Rattle.source.proofs.lowest.Goals.{else-b0-x-via-then-b0-x+else-x-b1, else-b0-x-via-else-b0-x}
use Rattle.source.proofs.lowest.Goals as goal

pub returns-then-x-b1 : goal.returns-then-x-b1
unfolding lowest_of
returns-then-x-b1 c = rw (c.in-Point.is, c.if-b0-x.true, c.if-x-b1.true, c.abs.ensures)

pub returns-in-Point : goal.returns-in-Point
unfolding lowest_of
returns-in-Point c =
    rw (c.lowest_end.ensures, c.in-Point.is)
    (elim c.else-b0-x.branch [ else-b0-x-via-then-b0-x+else-x-b1 w ↦ rw (w.if-b0-x.true, w.if-x-b1.false) | else-b0-x-via-else-b0-x w ↦ rw w.if-b0-x.false ])

pub returns : goal.returns
unfolding lowest_of
returns c = rw (c.min.ensures, c.edge-2.ensures, c.edge.ensures, c.in_default.is)
