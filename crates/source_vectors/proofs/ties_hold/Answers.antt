-- `source_vectors::ties_hold` meets its contract. Assumes nothing.
use Rattle.source_vectors.specs.Replay.{holds_for}
use Rattle.source_vectors.proofs.ties_hold.Goals as goal

pub returns : goal.returns
unfolding holds_for
returns c = rw (c.same_roots.ensures, c.ties.ensures, c.src_from-2.ensures, c.src_from.ensures)
