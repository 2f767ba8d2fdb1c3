-- `source_vectors::same_value` meets its contract. Assumes nothing.
use Rattle.source_vectors.specs.Replay.{same_value}
use Rattle.source_vectors.proofs.same_value.Goals as goal

pub returns : goal.returns
unfolding same_value
returns c = rw (c.agrees.ensures, c.word_from.ensures)
