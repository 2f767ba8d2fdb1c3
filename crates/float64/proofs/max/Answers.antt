-- `float64::max` meets its contract. Assumes nothing.
use Rattle.float64.specs.Scalar.{max_of}
use Rattle.float64.proofs.Scalar.{nan_of, number_of}
use Rattle.float64.proofs.max.Goals as goal

pub returns-then-x : goal.returns-then-x
unfolding max_of
returns-then-x c = rw (nan_of _ c.if-x.true)

pub returns-then-x-y : goal.returns-then-x-y
unfolding max_of
returns-then-x-y c = rw (number_of _ c.if-x.false, c.if-x-y.true)

pub returns : goal.returns
unfolding max_of
returns c = rw (number_of _ c.if-x.false, c.if-x-y.false)
