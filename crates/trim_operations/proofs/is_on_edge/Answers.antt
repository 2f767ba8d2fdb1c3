use mathlib.Core.Path.{sym}
use Rattle.trim_operations.proofs.Tests.{both_second, both_first}
use Rattle.trim_operations.proofs.is_on_edge.Goals as goal

pub returns-then-x-l : goal.returns-then-x-l
returns-then-x-l c = both_second _ _ _ c.if-x.true (sym c.if-x-l.true)

pub returns-then-x : goal.returns-then-x
returns-then-x c = both_second _ _ _ c.if-x.true (sym c.if-x-l.false)

pub returns : goal.returns
returns c = both_first _ _ c.if-x.false
