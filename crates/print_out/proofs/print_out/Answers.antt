-- `print_out::print_out` meets its contract. Assumes nothing.
use Rattle.print_out.specs.PrintOut.{text_of}
use Rattle.print_out.proofs.print_out.Goals as goal

pub returns-in-Refused : goal.returns-in-Refused
unfolding text_of
returns-in-Refused c =
    rw c.in-Refused.is c.put_refused.ensures

pub returns-in-Field : goal.returns-in-Field
unfolding text_of
returns-in-Field c =
    rw c.in-Field.is c.put_field.ensures
