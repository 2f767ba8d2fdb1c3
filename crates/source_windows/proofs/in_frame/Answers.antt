-- `source_windows::in_frame` meets its contract. Assumes nothing.
use Rattle.source_windows.specs.Segment.{in_frame_of}
use Rattle.source_windows.proofs.in_frame.Goals as goal

pub returns-then-ll-short : goal.returns-then-ll-short
unfolding in_frame_of
returns-then-ll-short c = rw (← c.max-by.ensures, ← c.max-ay.ensures, c.if-ll-short.true)

pub returns : goal.returns
unfolding in_frame_of
returns c = rw (← c.max-by.ensures, ← c.max-ay.ensures, c.if-ll-short.false, c.sqrt.ensures)
