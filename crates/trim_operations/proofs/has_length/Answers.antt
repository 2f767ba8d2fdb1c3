use Rattle.trim_operations.proofs.Tests.{both_second, both_first}
use Rattle.trim_operations.proofs.has_length.Goals as goal

pub returns-then-l : goal.returns-then-l
returns-then-l c = both_second _ _ _ c.if-l.true c.is_finite.ensures

pub returns : goal.returns
returns c = both_first _ _ c.if-l.false
