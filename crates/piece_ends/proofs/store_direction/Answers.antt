-- `piece_ends::store_direction` meets its contract. Assumes nothing.
use Rattle.piece_ends.proofs.Unit.{stored_is}
use Rattle.piece_ends.proofs.store_direction.Goals as goal

pub returns : goal.returns
returns c =
    let a = c.args in
    stored_is a.kinds.now a.coords.now a.i _ _ _ _ _ c.direction-u.ensures c.write_f64.ensures c.write_f64-2.ensures c.write_f64-3.ensures
