-- `print_out::is_below_zero` meets its contract. Assumes nothing.
use borrow.Author.Tests.{lt-ltb, le-ltb}
use Rattle.print_out.proofs.is_below_zero.Goals as goal

pub returns-then-thousandths-gt0 : goal.returns-then-thousandths-gt0
returns-then-thousandths-gt0 c = rw (c.if-minus.true, lt-ltb 0 c.args.thousandths c.if-thousandths-gt0.true)

pub returns-else-thousandths-gt0 : goal.returns-else-thousandths-gt0
returns-else-thousandths-gt0 c = rw (c.if-minus.true, le-ltb 0 c.args.thousandths c.if-thousandths-gt0.false)
