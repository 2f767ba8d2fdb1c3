use Rattle.buffers.specs.Zero.{zero_from}
use Rattle.buffers.proofs.zero_u32.Reads as reads
use Rattle.buffers.proofs.zero_u32.Lts as lts
use Rattle.buffers.proofs.zero_u32.Goals as goal

pub returns : goal.returns
unfolding zero_from
returns c = c.zero_u32_from.ensures
