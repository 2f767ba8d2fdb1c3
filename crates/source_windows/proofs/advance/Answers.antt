-- `source_windows::advance` meets its contract. Assumes nothing.
use Rattle.source_windows.specs.Back.{advance_of}
use Rattle.source_windows.proofs.advance.Goals as goal

pub returns-in-Left : goal.returns-in-Left
unfolding advance_of
returns-in-Left c = rw c.in-Left.is

pub returns-in-Right : goal.returns-in-Right
unfolding advance_of
returns-in-Right c = rw c.in-Right.is
