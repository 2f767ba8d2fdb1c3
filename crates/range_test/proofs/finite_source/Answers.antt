-- `range_test::finite_source` meets its contract. Assumes nothing.
use Rattle.range_test.specs.Range.{finite_source}
use Rattle.range_test.proofs.finite_source.Goals as goal

pub returns-in-Point : goal.returns-in-Point
unfolding finite_source
returns-in-Point c = rw c.in-Point.is c.finite_sum.ensures

pub returns-in-Line : goal.returns-in-Line
unfolding finite_source
returns-in-Line c = rw c.in-Line.is (c.is_finite.ensures, tt)
