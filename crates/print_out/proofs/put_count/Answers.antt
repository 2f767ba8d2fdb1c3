-- `print_out::put_count` meets its contract. Assumes nothing.
use Rattle.text_out.proofs.Puts.{puts_then}
use Rattle.print_out.specs.PrintOut.{count_text}
use native.Mathlib.Omega.{arith}
use Rattle.print_out.proofs.put_count.Goals as goal

pub returns : goal.returns
unfolding count_text
returns c =
    let word = c.put_text-j.ensures in
    (puts_then word c.put_decimal.ensures.0, omega (arith, c.put_decimal.ensures.1, word.ends))
