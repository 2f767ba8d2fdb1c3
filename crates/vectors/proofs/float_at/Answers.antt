-- `vectors::float_at` meets its contract. Assumes nothing.
use mathlib.Core.Path.{ap, ◌∙◌}
use lib.Ieee.{binary64, of_bits}
use Rattle.vectors.specs.Records.{float_at}
use Rattle.vectors.proofs.float_at.Goals as goal

pub returns : goal.returns
unfolding float_at
returns c = c.float.ensures ∙ ap (of_bits binary64) c.word.ensures
