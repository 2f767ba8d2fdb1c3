use Rattle.buffers.specs.Zero.{zero_from}
use Rattle.buffers.proofs.zero_f64.Reads as reads
use Rattle.buffers.proofs.zero_f64.Lts as lts
use Rattle.buffers.proofs.zero_f64.Goals as goal

pub returns : goal.returns
unfolding zero_from
returns c = c.zero_f64_from.ensures
