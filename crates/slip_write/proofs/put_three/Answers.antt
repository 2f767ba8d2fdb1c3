-- `slip_write::put_three` meets its contract. Assumes nothing.
use Rattle.slip_write.proofs.Lengths.{length_double}
use Rattle.slip_write.specs.Write.{three_bytes}
use Rattle.text_out.proofs.Puts.{puts_then}
use native.Mathlib.Omega.{arith}
use Rattle.slip_write.proofs.put_three.Goals as goal

pub put_double-b-requires : goal.put_double-b-requires
put_double-b-requires c =
    omega (arith, c.put_double-a.ensures.ends, length_double c.real_at.result)

pub put_double-requires : goal.put_double-requires
put_double-requires c =
    omega (arith, c.put_double-a.ensures.ends, length_double c.real_at.result, c.put_double-b.ensures.ends, length_double c.real_at-2.result)

pub returns : goal.returns
unfolding three_bytes
returns c =
    let first = c.put_double-a.ensures in
    let second = c.put_double-b.ensures in
    let third = c.put_double.ensures in (
      rw (c.real_at.ensures, c.real_at-2.ensures, c.real_at-3.ensures) at (puts_then (puts_then first second) third),
      omega (arith, first.ends, second.ends, third.ends, length_double c.real_at.result, length_double c.real_at-2.result, length_double c.real_at-3.result),
    )
