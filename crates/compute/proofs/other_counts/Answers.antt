-- `compute::other_counts` meets its contract. Assumes nothing.
use Rattle.compute.proofs.Told.{same_counts}
use Rattle.compute.proofs.other_counts.Goals as goal

pub returns : goal.returns
returns c = same_counts c.slots.ensures c.count.ensures c.count-2.ensures c.slots-2.ensures c.slots-3.ensures
