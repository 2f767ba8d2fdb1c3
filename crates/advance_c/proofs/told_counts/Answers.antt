-- `advance_c::told_counts` meets its contract. Assumes nothing.
use Rattle.advance_c.proofs.Turning.{counts_told}
use Rattle.advance_c.proofs.told_counts.Goals as goal

pub returns : goal.returns
returns c = counts_told _ c.read_u32.ensures c.read_u32-2.ensures
