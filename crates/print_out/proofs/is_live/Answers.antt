-- `print_out::is_live` meets its contract. Assumes nothing.
use Rattle.print_out.specs.PrintOut.{is_live}
use Rattle.print_out.proofs.is_live.Goals as goal

pub returns : goal.returns
unfolding is_live
returns c =
    rw c.read_u32-flags.ensures at c.has_flag.ensures
