use mathlib.Core.Bool.{not}
use mathlib.Core.Path.{sym, ap}
use Rattle.field_check.proofs.not_below.Goals as goal

pub returns-then-x-y : goal.returns-then-x-y
returns-then-x-y c = sym (ap not c.if-x-y.true)

pub returns : goal.returns
returns c = sym (ap not c.if-x-y.false)
