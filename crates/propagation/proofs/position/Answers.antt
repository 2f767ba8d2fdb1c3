-- `propagation::position` meets its contract. Assumes nothing.
use Rattle.propagation.specs.Plane.{pos_of}
use Rattle.propagation.proofs.position.Goals as goal

pub returns-in-A : goal.returns-in-A
unfolding pos_of
returns-in-A c = rw c.in-A.is

pub returns-in-B : goal.returns-in-B
unfolding pos_of
returns-in-B c = rw c.in-B.is

pub returns-in-C : goal.returns-in-C
unfolding pos_of
returns-in-C c = rw c.in-C.is
