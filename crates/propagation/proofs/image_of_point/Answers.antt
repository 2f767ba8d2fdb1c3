-- `propagation::image_of_point` meets its contract. Assumes nothing.
use Rattle.propagation.specs.Propagate.{image_of_point}
use Rattle.propagation.proofs.Infinity.{infinity_is, minus_infinity_is}
use Rattle.propagation.proofs.image_of_point.Goals as goal

pub returns-then-xn-sn : goal.returns-then-xn-sn
unfolding image_of_point
returns-then-xn-sn c = rw (← c.map-xn.ensures, c.if-k.true, c.if-xn-sn.true) infinity_is

pub returns-then-k : goal.returns-then-k
unfolding image_of_point
returns-then-k c = rw (← c.map-xn.ensures, c.if-k.true, c.if-xn-sn.false) minus_infinity_is

pub returns : goal.returns
unfolding image_of_point
returns c = rw (← c.map-xn.ensures, c.if-k.false)
