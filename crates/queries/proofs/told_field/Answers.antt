-- `queries::told_field` meets its contract. Assumes nothing.
use Rattle.queries.proofs.Told.{told_is}
use Rattle.queries.proofs.told_field.Goals as goal

pub returns : goal.returns
returns c =
    told_is _ c.read_u32.ensures c.read_u32-2.ensures c.read_u32-3.ensures c.read_u32-4.ensures c.read_u32-5.ensures c.read_u32-6.ensures
