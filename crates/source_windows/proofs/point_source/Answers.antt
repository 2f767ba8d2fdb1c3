-- `source_windows::point_source` meets its contract. Assumes nothing.
use Rattle.source_windows.specs.Wedge.{point_source_of}
use Rattle.source_windows.proofs.point_source.Goals as goal

pub returns : goal.returns
unfolding point_source_of
returns c = rw c.min.ensures
