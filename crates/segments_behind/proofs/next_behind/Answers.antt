-- `segments_behind::next_behind` meets its contract. Assumes nothing.
use Rattle.segments_behind.proofs.Finding.{next_behind_done}
use Rattle.segments_behind.proofs.next_behind.Goals as goal

pub returns : goal.returns
returns c =
    let a = c.args in
    next_behind_done a.kinds.now a.faces.now a.coords.now a.words.now a.pieces a.g.0 a.e _ _ c.next_at-link.ensures c.first_behind.ensures
