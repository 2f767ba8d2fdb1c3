-- `source_vectors::edge_hold` meets its contract. Assumes nothing.
use Rattle.source_vectors.specs.Replay.{holds_for}
use Rattle.source_vectors.proofs.edge_hold.Goals as goal

pub returns : goal.returns
unfolding holds_for
returns c = rw (c.same_value.ensures, c.edge.ensures, c.float_from.ensures, c.src_from.ensures)
