-- `stored_numbers::double` meets its contract. Assumes nothing.
use Rattle.stored_numbers.proofs.double.Goals as goal

pub returns : goal.returns
returns c = rw (c.number.ensures, c.number-2.ensures) at c.float.ensures
