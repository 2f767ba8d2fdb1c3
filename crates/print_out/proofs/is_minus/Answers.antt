-- `print_out::is_minus` meets its contract. Assumes nothing.
use mathlib.Core.Path.{sym}
use borrow.Author.Tests.{lt-leb, le-leb}
use Rattle.print_out.proofs.is_minus.Goals as goal

pub returns-then-b-lt9223372036854775808 : goal.returns-then-b-lt9223372036854775808
returns-then-b-lt9223372036854775808 c = sym (lt-leb 0x8000_0000_0000_0000 c.args.b c.if-b-lt9223372036854775808.true)

pub returns : goal.returns
returns c = sym (le-leb 0x8000_0000_0000_0000 c.args.b c.if-b-lt9223372036854775808.false)
