-- `source_windows::segment_window` meets its contract. Assumes nothing.
use Rattle.source_windows.specs.Segment.{segment_window_of}
use Rattle.source_windows.proofs.segment_window.Goals as goal

pub returns-in_err-g : goal.returns-in_err-g
unfolding segment_window_of
returns-in_err-g c = rw (c.from_residual.ensures, c.in_err-g.was)

pub returns : goal.returns
unfolding segment_window_of
returns c = rw (c.in_ok-g.was, c.side_window.ensures)
