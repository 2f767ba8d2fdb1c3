-- `vectors::pattern` meets its contract. Assumes nothing.
use Rattle.root_spec.proofs.Floats.{no_nan}
use Rattle.vectors.proofs.Laws.{nan_pattern}
use Rattle.vectors.proofs.pattern.Goals as goal

pub returns-then-x : goal.returns-then-x
returns-then-x c = nan_pattern _ c.if-x.true

pub float_to_bits-result : goal.float_to_bits-result
float_to_bits-result c = no_nan _ c.if-x.false
