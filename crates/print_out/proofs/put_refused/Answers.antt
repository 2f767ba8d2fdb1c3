-- `print_out::put_refused` meets its contract. Assumes nothing.
use Rattle.text_out.proofs.Puts.{puts_then}
use Rattle.print_out.specs.PrintOut.{refused_line}
use Rattle.print_out.proofs.put_refused.Goals as goal

pub returns : goal.returns
unfolding refused_line
returns c =
    puts_then c.put_count-a.ensures.0 c.put_text.ensures
