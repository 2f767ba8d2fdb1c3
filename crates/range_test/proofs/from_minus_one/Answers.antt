-- `range_test::from_minus_one` meets its contract. Assumes nothing.
use Rattle.range_test.specs.Range.{from_minus_one}
use Rattle.range_test.proofs.from_minus_one.Goals as goal

pub returns-in-Point : goal.returns-in-Point
unfolding from_minus_one
returns-in-Point c = rw c.in-Point.is

pub returns-in-Line : goal.returns-in-Line
unfolding from_minus_one
returns-in-Line c = rw (c.lowest.ensures, c.in-Line.is)
