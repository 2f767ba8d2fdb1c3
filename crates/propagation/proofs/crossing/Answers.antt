-- `propagation::crossing` meets its contract. Assumes nothing.
use Rattle.propagation.specs.Propagate.{xc_of, ray_of}
use Rattle.propagation.proofs.crossing.Goals as goal

pub returns-then-g : goal.returns-then-g
unfolding xc_of ray_of
returns-then-g c = rw c.if-g.true

pub returns-then-sy-g : goal.returns-then-sy-g
unfolding xc_of ray_of
returns-then-sy-g c = rw (c.if-g.false, c.in-Point.is, c.if-sy-g.true)

pub returns-then-uy : goal.returns-then-uy
unfolding xc_of ray_of
returns-then-uy c = rw (c.if-g.false, c.in-Line.is, c.if-uy.true)

pub returns-else-sy-g : goal.returns-else-sy-g
unfolding xc_of ray_of
returns-else-sy-g c = rw (c.if-g.false, c.in-Point.is, c.if-sy-g.false)

pub returns-else-uy : goal.returns-else-uy
unfolding xc_of ray_of
returns-else-uy c = rw (c.if-g.false, c.in-Line.is, c.if-uy.false)
