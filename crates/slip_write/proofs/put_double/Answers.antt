-- `slip_write::put_double` meets its contract. Assumes nothing.
use Prim.Native.Nat.{◌%◌}
use Rattle.slip_write.proofs.Lengths.{length_number}
use Rattle.text_out.proofs.Puts.{puts_then}
use Rattle.little_endian.specs.Bytes.{double_bytes}
use native.Mathlib.Omega.{arith}
use Rattle.slip_write.proofs.put_double.Goals as goal

pub put_number-requires : goal.put_number-requires
put_number-requires c =
    omega (arith, c.put_number-j.ensures.ends, length_number (c.pattern-b.result % 4_294_967_296))

pub returns : goal.returns
unfolding double_bytes
returns c =
    let both = puts_then c.put_number-j.ensures c.put_number.ensures in rw c.pattern-b.ensures at both
