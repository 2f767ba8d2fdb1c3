use Rattle.windows.specs.Windows.{reals_of}
use Rattle.windows.proofs.store_src.Goals as goal

pub returns-in-Point : goal.returns-in-Point
unfolding reals_of
returns-in-Point c = rw c.in-Point.is c.store_three.ensures

pub returns-in-Line : goal.returns-in-Line
unfolding reals_of
returns-in-Line c = rw c.in-Line.is c.store_three-in-Line.ensures
