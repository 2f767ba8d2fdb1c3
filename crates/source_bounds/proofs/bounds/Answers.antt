-- `source_bounds::bounds` meets its contract. Assumes nothing.
use Rattle.source_bounds.proofs.Shifted.{point_bounded, line_bounded}
use Rattle.source_bounds.proofs.bounds.Goals as goal

pub returns-in_ok-b-in-Point : goal.returns-in_ok-b-in-Point
returns-in_ok-b-in-Point c = rw c.in-Point.is (point_bounded _ _ _ _ _ _ c.limited.result c.in_ok-b-in-Point.ensures c.limited.ensures)

pub returns-in-Line : goal.returns-in-Line
returns-in-Line c = rw c.in-Line.is (line_bounded _ _ _ _ c.limited-in-Line.result c.limited-in-Line.ensures)
