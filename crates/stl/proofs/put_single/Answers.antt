-- `stl::put_single` meets its contract. Assumes nothing.
use native.Mathlib.Omega.{arith}
use Rattle.stl_format.specs.Format.{single_bytes}
use Rattle.stl.proofs.Written.{length_count}
use Rattle.stl.proofs.put_single.Goals as goal

pub returns : goal.returns
unfolding single_bytes
returns c =
    let e = c.single_bits.ensures c.requires.1 in
    (rw e at c.put_number.ensures, omega (arith, c.put_number.ensures.ends, length_count c.single_bits.result))
