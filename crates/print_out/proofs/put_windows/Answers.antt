-- `print_out::put_windows` meets its contract. Assumes nothing.
use Rattle.text_out.proofs.Puts.{puts_then}
use Rattle.print_out.specs.PrintOut.{windows_line}
use native.Mathlib.Omega.{arith}
use Rattle.print_out.proofs.put_windows.Goals as goal

pub returns : goal.returns
unfolding windows_line
returns c =
    let line = c.put_text.ensures in (
      puts_then (puts_then (puts_then c.put_count-a.ensures.0 c.put_count-b.ensures.0) c.put_count-c.ensures.0) line,
      omega (arith, c.put_count-a.ensures.1, c.put_count-b.ensures.1, c.put_count-c.ensures.1, line.ends),
    )
