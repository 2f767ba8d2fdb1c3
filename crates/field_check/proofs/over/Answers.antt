use mathlib.Core.Path.{sym}
use borrow.Author.Tests.{lt-ltb, le-ltb}
use Rattle.field_check.proofs.over.Goals as goal

pub returns-then-most-n : goal.returns-then-most-n
returns-then-most-n c = sym (lt-ltb _ _ c.if-most-n.true)

pub returns : goal.returns
returns c = sym (le-ltb _ _ c.if-most-n.false)
