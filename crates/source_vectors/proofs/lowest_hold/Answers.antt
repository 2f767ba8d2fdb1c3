-- `source_vectors::lowest_hold` meets its contract. Assumes nothing.
use Rattle.source_vectors.specs.Replay.{holds_for}
use Rattle.source_vectors.proofs.lowest_hold.Goals as goal

pub returns : goal.returns
unfolding holds_for
returns c = rw (c.same_value.ensures, c.lowest.ensures, c.float_from-2.ensures, c.float_from.ensures, c.src_from.ensures)
