-- `source_vectors::roots_hold` meets its contract. Assumes nothing.
use Rattle.source_vectors.specs.Replay.{holds_for}
use Rattle.source_vectors.proofs.roots_hold.Goals as goal

pub returns : goal.returns
unfolding holds_for
returns c = rw (c.same_roots.ensures, c.roots.ensures, c.float_from-3.ensures, c.float_from-2.ensures, c.float_from.ensures)
