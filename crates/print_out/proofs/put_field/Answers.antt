-- `print_out::put_field` meets its contract. Assumes nothing.
use Rattle.text_out.proofs.Puts.{puts_then}
use Rattle.print_out.specs.PrintOut.{field_text}
use Rattle.print_out.proofs.put_field.Goals as goal

pub returns : goal.returns
unfolding field_text
returns c =
    puts_then (puts_then (puts_then c.put_edges-a.ensures.0 c.put_windows-b.ensures.0) c.put_corners-c.ensures.0) c.put_text.ensures
