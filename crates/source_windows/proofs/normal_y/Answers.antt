-- `source_windows::normal_y` meets its contract. Assumes nothing.
use Rattle.source_windows.specs.Segment.{ny_of}
use Rattle.source_windows.proofs.normal_y.Goals as goal

pub returns-in-Left : goal.returns-in-Left
unfolding ny_of
returns-in-Left c = rw c.in-Left.is

pub returns-in-Right : goal.returns-in-Right
unfolding ny_of
returns-in-Right c = rw c.in-Right.is
