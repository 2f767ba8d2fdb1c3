use Rattle.buffers.specs.Slots.{fill}
use Rattle.windows.proofs.store_three.Goals as goal

pub returns : goal.returns
unfolding fill
returns c = cc
