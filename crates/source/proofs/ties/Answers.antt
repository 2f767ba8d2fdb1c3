-- `source::ties` meets its contract. Assumes nothing.
use Rattle.source.specs.Distance.{ties_of}
use Rattle.source.proofs.ties.Goals as goal

pub returns-then-u0-u1 : goal.returns-then-u0-u1
unfolding ties_of
returns-then-u0-u1 c = rw (c.in-Line.is, c.in-Line-q-2.is, c.if-u0-u1.true)

pub returns-in-Point-q : goal.returns-in-Point-q
unfolding ties_of
returns-in-Point-q c = rw (c.in-Point.is, c.in-Point-q.is) c.ties_points.ensures

pub returns-in-Line-q : goal.returns-in-Line-q
unfolding ties_of
returns-in-Line-q c = rw (c.in-Point.is, c.in-Line-q.is) c.ties_point_line.ensures

pub returns-in-Point-q-2 : goal.returns-in-Point-q-2
unfolding ties_of
returns-in-Point-q-2 c = rw (c.in-Line.is, c.in-Point-q-2.is) c.ties_point_line-in-Point-q-2.ensures

pub returns-else-u0-u1 : goal.returns-else-u0-u1
unfolding ties_of
returns-else-u0-u1 c = rw (c.in-Line.is, c.in-Line-q-2.is, c.if-u0-u1.false)
