-- `slip_write::put_rest` meets its contract. Assumes nothing.
use Rattle.slip_write.specs.Write.{rest_bytes}
use Rattle.text_out.proofs.Puts.{puts_then}
use Rattle.slip_write.proofs.put_rest.Goals as goal

pub returns : goal.returns
unfolding rest_bytes
returns c =
    puts_then c.put_pieces-a.ensures.0 c.put_double.ensures
