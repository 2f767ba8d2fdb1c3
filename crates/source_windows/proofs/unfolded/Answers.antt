-- `source_windows::unfolded` meets its contract. Assumes nothing.
use Rattle.source_windows.specs.Wedge.{unfolded_of}
use Rattle.source_windows.proofs.unfolded.Goals as goal

pub returns : goal.returns
unfolding unfolded_of
returns c = rw (c.axpy.ensures, c.dot-2.ensures, c.scale.ensures, c.dot.ensures)
