-- `better_vectors::capacity` meets its contract. Assumes nothing.
use native.Mathlib.Omega.{arith}
use Rattle.better_vectors.specs.Replay.{slot_count_of}
use Rattle.better_vectors.proofs.capacity.Goals as goal

pub returns : goal.returns
unfolding slot_count_of
returns c = (rw c.word_from.ensures, omega arith)
