-- `slip_write::put_counts` meets its contract. Assumes nothing.
use Rattle.slip_write.proofs.Lengths.{length_number}
use Rattle.slip_write.specs.Write.{counts_bytes}
use Rattle.text_out.proofs.Puts.{puts_then}
use native.Mathlib.Omega.{arith}
use Prim.Native.Nat.{◌%◌}
use Rattle.slip_write.proofs.put_counts.Goals as goal

pub put_number-b-requires : goal.put_number-b-requires
put_number-b-requires c =
    let a = c.args in
    omega (arith, c.put_number-a.ensures.ends, length_number (a.vertices % 4_294_967_296))

pub put_number-requires : goal.put_number-requires
put_number-requires c =
    let a = c.args in
    omega (arith, c.put_number-a.ensures.ends, length_number (a.vertices % 4_294_967_296), c.put_number-b.ensures.ends, length_number (a.triangles % 4_294_967_296))

pub returns : goal.returns
unfolding counts_bytes
returns c =
    let a = c.args in
    let one = c.put_number-a.ensures in
    let two = c.put_number-b.ensures in
    let three = c.put_number.ensures in (
      puts_then (puts_then one two) three,
      omega (arith, one.ends, two.ends, three.ends, length_number (a.vertices % 4_294_967_296), length_number (a.triangles % 4_294_967_296), length_number (a.pieces % 4_294_967_296)),
    )
