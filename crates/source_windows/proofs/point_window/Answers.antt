-- `source_windows::point_window` meets its contract. Assumes nothing.
use Rattle.source_windows.specs.Wedge.{point_window_of}
use Rattle.source_windows.proofs.point_window.Goals as goal

pub returns-then-too_narrow : goal.returns-then-too_narrow
unfolding point_window_of
returns-then-too_narrow c = rw (← c.too_narrow.ensures, c.if-too_narrow.true)

pub returns : goal.returns
unfolding point_window_of
returns c = rw (← c.too_narrow.ensures, c.if-too_narrow.false, c.point_source.ensures)
