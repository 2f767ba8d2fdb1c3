-- `source_windows::behind` meets its contract. Assumes nothing.
use Rattle.source_windows.specs.Wedge.{behind_of}
use Rattle.source_windows.proofs.behind.Goals as goal

pub returns : goal.returns
unfolding behind_of
returns c = rw (c.narrow.ensures, c.dot-2.ensures, c.dot.ensures, c.sub.ensures)
