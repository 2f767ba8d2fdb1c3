-- `float64::min` meets its contract. Assumes nothing.
use Rattle.float64.specs.Scalar.{min_of}
use Rattle.float64.proofs.Scalar.{nan_of, number_of}
use Rattle.float64.proofs.min.Goals as goal

pub returns-then-x : goal.returns-then-x
unfolding min_of
returns-then-x c = rw (nan_of _ c.if-x.true)

pub returns-then-y-x : goal.returns-then-y-x
unfolding min_of
returns-then-y-x c = rw (number_of _ c.if-x.false, c.if-y-x.true)

pub returns : goal.returns
unfolding min_of
returns c = rw (number_of _ c.if-x.false, c.if-y-x.false)
