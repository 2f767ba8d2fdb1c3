use mathlib.Core.Path.{sym}
use borrow.Author.Tests.{le-leb, lt-leb}
use Rattle.field_check.proofs.past.Goals as goal

pub returns-then-n-count : goal.returns-then-n-count
returns-then-n-count c = sym (lt-leb _ _ c.if-n-count.true)

pub returns : goal.returns
returns c = sym (le-leb _ _ c.if-n-count.false)
