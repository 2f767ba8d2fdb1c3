-- `slip_write::put_slip` meets its contract. Assumes nothing.
use Rattle.slip_write.specs.Write.{slip_of}
use Rattle.text_out.proofs.Puts.{puts_then}
use Rattle.slip_write.proofs.put_slip.Goals as goal

pub returns : goal.returns
unfolding slip_of
returns c =
    puts_then (puts_then c.put_counts-a.ensures.0 c.put_mesh-b.ensures.0) c.put_rest.ensures
