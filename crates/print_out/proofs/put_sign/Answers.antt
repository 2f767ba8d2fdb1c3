-- `print_out::put_sign` meets its contract. Assumes nothing.
use Rattle.text_out.proofs.Puts.{puts_none}
use native.Mathlib.Omega.{arith}
use Rattle.print_out.proofs.put_sign.Goals as goal

pub returns-then-minus : goal.returns-then-minus
returns-then-minus c =
    let put = c.put_text.ensures in (rw c.if-minus.true put, omega (arith, put.ends))

pub returns : goal.returns
returns c = (rw c.if-minus.false (puts_none _ _), omega arith)
