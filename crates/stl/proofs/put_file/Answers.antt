-- `stl::put_file` meets its contract. Assumes nothing.
use Prim.Native.Nat.{◌/◌}
use native.Mathlib.Omega.{arith}
use lib.ListN.{length}
use Rattle.text_out.proofs.Puts.{puts_then}
use Rattle.stl_format.specs.Format.{file_of}
use Rattle.stl.proofs.Written.{length_count}
use Rattle.stl.proofs.put_file.Goals as goal

pub overflow_cast-triangles : goal.overflow_cast-triangles
overflow_cast-triangles c = omega (arith, c.requires.0)

pub put_number-b-requires : goal.put_number-b-requires
put_number-b-requires c = omega (arith, c.put_text-a.ensures.ends)

pub put_records-requires : goal.put_records-requires
put_records-requires c =
    (omega (arith, c.put_number-b.ensures.ends, length_count (length c.args.triangles.now / 3), c.put_text-a.ensures.ends), (c.requires.0, c.requires.1))

pub returns : goal.returns
unfolding file_of
returns c =
    puts_then (puts_then c.put_text-a.ensures c.put_number-b.ensures) c.put_records.ensures
