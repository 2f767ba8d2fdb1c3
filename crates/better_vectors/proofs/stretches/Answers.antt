-- `better_vectors::stretches` meets its contract. Assumes nothing.
use native.Mathlib.Omega.{arith}
use Rattle.better_vectors.specs.Replay.{stretches_of}
use Rattle.better_vectors.proofs.stretches.Goals as goal

pub returns : goal.returns
unfolding stretches_of
returns c = (rw c.word_from.ensures, omega arith)
