-- `piece_ends::next_at` meets its contract. Assumes nothing.
use Rattle.piece_ends.proofs.Seeking.{next_done}
use Rattle.piece_ends.proofs.next_at.Goals as goal

pub returns : goal.returns
returns c =
    let a = c.args in
    next_done a.coords.now a.words.now a.pieces a.e _ _ _ c.end_point.ensures c.next_link.ensures c.seek.ensures
