-- `source_windows::normal_x` meets its contract. Assumes nothing.
use Rattle.source_windows.specs.Segment.{nx_of}
use Rattle.source_windows.proofs.normal_x.Goals as goal

pub returns-in-Left : goal.returns-in-Left
unfolding nx_of
returns-in-Left c = rw c.in-Left.is

pub returns-in-Right : goal.returns-in-Right
unfolding nx_of
returns-in-Right c = rw c.in-Right.is
