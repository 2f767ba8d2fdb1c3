-- `vectors::agrees` meets its contract. Assumes nothing.
use Rattle.vectors.specs.Records.{agrees}
use Rattle.vectors.proofs.agrees.Goals as goal

pub returns : goal.returns
unfolding agrees
returns c = rw (c.pattern-2.ensures, c.float.ensures, c.pattern.ensures)
