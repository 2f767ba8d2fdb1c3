-- `print_out::put_edges` meets its contract. Assumes nothing.
use Rattle.text_out.proofs.Puts.{puts_then}
use Rattle.print_out.specs.PrintOut.{edges_line}
use native.Mathlib.Omega.{arith}
use Rattle.print_out.proofs.put_edges.Goals as goal

pub returns : goal.returns
unfolding edges_line
returns c =
    let line = c.put_text.ensures in
    (puts_then c.put_count-a.ensures.0 line, omega (arith, c.put_count-a.ensures.1, line.ends))
