-- `propagation::across` meets its contract. Assumes nothing.
use Rattle.propagation.specs.Plane.{yh_of}
use Rattle.propagation.proofs.across.Goals as goal

pub returns-then-rest-o : goal.returns-then-rest-o
unfolding yh_of
returns-then-rest-o c = rw c.if-rest-o.true

pub returns : goal.returns
unfolding yh_of
returns c = rw c.if-rest-o.false
