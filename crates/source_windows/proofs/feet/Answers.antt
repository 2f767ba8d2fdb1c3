-- `source_windows::feet` meets its contract. Assumes nothing.
use Rattle.source_windows.specs.Segment.{feet_of}
use Rattle.source_windows.proofs.feet.Goals as goal
use Rattle.source_windows.proofs.feet.Goals.{else-base-via-then-base+else-base-g, else-base-via-else-base}

pub returns-then-abs-g : goal.returns-then-abs-g
unfolding feet_of
returns-then-abs-g c = rw (← c.abs.ensures, c.if-abs-g.true, c.min-then-abs-g.ensures, c.max-then-abs-g.ensures, c.max.ensures, c.min.ensures)

pub returns-then-base-g : goal.returns-then-base-g
unfolding feet_of
returns-then-base-g c = rw (← c.abs.ensures, c.if-abs-g.false, c.if-base.true, c.if-base-g.true, c.whole_edge.ensures)

pub returns : goal.returns
unfolding feet_of
returns c = elim c.else-base.branch [
  | else-base-via-then-base+else-base-g w ↦ rw (← c.abs.ensures, c.if-abs-g.false, w.if-base.true, w.if-base-g.false)
  | else-base-via-else-base w ↦ rw (← c.abs.ensures, c.if-abs-g.false, w.if-base.false)
]
