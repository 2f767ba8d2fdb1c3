-- `slip_moves::put_head` meets its contract. Assumes nothing.
use Rattle.slip_moves.specs.Moves.{head_bytes}
use native.Mathlib.Omega.{arith}
use Rattle.text_out.proofs.Puts.{puts_then}
use Rattle.slip_moves.proofs.put_head.Goals as goal

pub returns : goal.returns
unfolding head_bytes
returns c = (
  puts_then (puts_then (puts_then c.put_first_byte-a.ensures.0 c.put_number-b.ensures.0) c.put_number-c.ensures.0) c.put_number.ensures.0,
  omega (arith, c.put_first_byte-a.ensures.1, c.put_number-b.ensures.1, c.put_number-c.ensures.1, c.put_number.ensures.1),
)
