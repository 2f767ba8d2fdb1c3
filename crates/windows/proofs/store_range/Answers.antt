use Rattle.buffers.specs.Slots.{fill}
use Rattle.windows.specs.Windows.{range_with}
use Rattle.windows.proofs.store_range.Goals as goal

pub returns : goal.returns
unfolding range_with fill
returns c = cc
