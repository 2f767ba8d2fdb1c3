-- `source::free` meets its contract. Assumes nothing.
use Rattle.source.specs.Distance.{free_of}
use Rattle.source.proofs.free.Goals as goal

pub returns-in-Point : goal.returns-in-Point
unfolding free_of
returns-in-Point c = rw (c.in-Point.is, c.hypot.ensures)

pub returns-in-Line : goal.returns-in-Line
unfolding free_of
returns-in-Line c = rw c.in-Line.is
