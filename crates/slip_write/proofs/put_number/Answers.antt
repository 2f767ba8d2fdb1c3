-- `slip_write::put_number` meets its contract. Assumes nothing.
use Rattle.little_endian.specs.Bytes.{number_bytes}
use Rattle.slip_write.proofs.put_number.Goals as goal

pub returns : goal.returns
unfolding number_bytes
returns c =
    c.put_text.ensures
