-- `slip_moves::put_first_byte` meets its contract. Assumes nothing.
use Rattle.slip_moves.specs.Moves.{first_byte}
use native.Mathlib.Omega.{arith}
use Rattle.text_out.proofs.Puts.{puts_none}
use Rattle.slip_moves.proofs.put_first_byte.Goals as goal

pub returns-in-Plain : goal.returns-in-Plain
unfolding first_byte
returns-in-Plain c = rw c.in-Plain.is (puts_none _ 0, omega arith)

pub returns-in-Groups : goal.returns-in-Groups
unfolding first_byte
returns-in-Groups c = rw c.in-Groups.is (c.put_text.ensures, omega (arith, c.put_text.ensures.ends))
