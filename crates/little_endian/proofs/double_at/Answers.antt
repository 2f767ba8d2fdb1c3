-- `little_endian::double_at` meets its contract. Assumes nothing.
use Rattle.little_endian.specs.Bytes.{double_from}
use Rattle.little_endian.proofs.double_at.Goals as goal

pub returns : goal.returns
unfolding double_from
returns c = rw (c.number_at.ensures, c.number_at-2.ensures) at c.float.ensures
