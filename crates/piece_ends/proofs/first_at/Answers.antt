-- `piece_ends::first_at` meets its contract. Assumes nothing.
use Rattle.piece_ends.proofs.Seeking.{first_done}
use Rattle.piece_ends.proofs.first_at.Goals as goal

pub returns : goal.returns
returns c =
    let a = c.args in
    first_done a.coords.now a.words.now a.pieces a.p _ _ _ c.bucket_of.ensures c.read_u32-head.ensures c.seek.ensures
