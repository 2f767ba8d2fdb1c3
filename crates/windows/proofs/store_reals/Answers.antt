use Rattle.buffers.specs.Slots.{fill}
use Rattle.windows.specs.Windows.{reals_with}
use Rattle.windows.proofs.store_reals.Goals as goal

pub returns : goal.returns
unfolding reals_with fill
returns c = cc
