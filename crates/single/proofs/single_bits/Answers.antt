-- `single::single_bits` meets its contract. Assumes nothing.
use Rattle.single.proofs.single_bits.Goals as goal

pub returns : goal.returns
returns c = λ h. c.narrow.ensures _ h c.pattern.ensures
