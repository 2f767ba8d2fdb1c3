-- `source_windows::side_window` meets its contract. Assumes nothing.
use Rattle.source_windows.specs.Segment.{wave_of, side_window_of}
use Rattle.source_windows.proofs.side_window.Goals as goal

pub returns-then-ny : goal.returns-then-ny
unfolding side_window_of
returns-then-ny c = rw (← c.normal_y-ny.ensures, c.if-ny.true)

pub returns-in_err-w : goal.returns-in_err-w
unfolding side_window_of wave_of
returns-in_err-w c = rw (c.from_residual.ensures, ← c.normal_y-ny.ensures, c.if-ny.false, ← c.in_err-w.ensures)

pub returns : goal.returns
unfolding side_window_of
returns c = rw (← c.normal_y-ny.ensures, c.if-ny.false, c.wave.ensures, c.normal_x.ensures, c.in_ok-w.ensures)
