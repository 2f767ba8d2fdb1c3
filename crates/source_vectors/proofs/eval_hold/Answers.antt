-- `source_vectors::eval_hold` meets its contract. Assumes nothing.
use Rattle.source_vectors.specs.Replay.{holds_for}
use Rattle.source_vectors.proofs.eval_hold.Goals as goal

pub returns : goal.returns
unfolding holds_for
returns c = rw (c.same_value.ensures, c.eval.ensures, c.float_from-3.ensures, c.float_from-2.ensures, c.src_from.ensures, c.float_from.ensures, c.float_from-b0.ensures)
