-- `float64::is_finite` meets its contract. Assumes nothing.
use Rattle.float64.proofs.Scalar.{finite_tests}
use Rattle.float64.proofs.is_finite.Goals as goal

pub returns-then-infinity-x : goal.returns-then-infinity-x
returns-then-infinity-x c = rw (finite_tests c.args.x, c.if-x-infinity.true, c.if-infinity-x.true)

pub returns-then-x-infinity : goal.returns-then-x-infinity
returns-then-x-infinity c = rw (finite_tests c.args.x, c.if-x-infinity.true, c.if-infinity-x.false)

pub returns : goal.returns
returns c = rw (finite_tests c.args.x, c.if-x-infinity.false)
