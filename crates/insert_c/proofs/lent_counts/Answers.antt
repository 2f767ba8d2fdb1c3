-- `insert_c::lent_counts` meets its contract. Assumes nothing.
use Rattle.insert_c.proofs.Told.{same_others}
use Rattle.insert_c.proofs.lent_counts.Goals as goal

pub returns : goal.returns
returns c = same_others c.slots.ensures c.count.ensures c.count-windows.ensures
