-- `propagation::image_of_line` meets its contract. Assumes nothing.
use Rattle.propagation.specs.Propagate.{image_of_line}
use Rattle.propagation.proofs.Infinity.{infinity_is, minus_infinity_is}
use Rattle.propagation.proofs.image_of_line.Goals as goal

pub returns-then-un-2 : goal.returns-then-un-2
unfolding image_of_line
returns-then-un-2 c = rw (c.if-un.true, c.if-un-2.true) infinity_is

pub returns-then-un : goal.returns-then-un
unfolding image_of_line
returns-then-un c = rw (c.if-un.true, c.if-un-2.false) minus_infinity_is

pub returns : goal.returns
unfolding image_of_line
returns c = rw (← c.map-xn.ensures, c.if-un.false)
