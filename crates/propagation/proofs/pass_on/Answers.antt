-- `propagation::pass_on` meets its contract. Assumes nothing.
use Rattle.propagation.specs.Propagate.{side_of}
use Rattle.propagation.proofs.pass_on.Goals as goal

pub returns-then-too_narrow : goal.returns-then-too_narrow
unfolding side_of
returns-then-too_narrow c = rw (← c.part-r.ensures, ← c.too_narrow.ensures, c.if-too_narrow.true)

pub returns : goal.returns
unfolding side_of
returns c = rw (← c.part-r.ensures, ← c.too_narrow.ensures, c.if-too_narrow.false, c.images.ensures, c.next_frame.ensures)
