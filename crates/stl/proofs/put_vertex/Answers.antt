-- `stl::put_vertex` meets its contract. Assumes nothing.
use Prim.Native.Nat.{◌+◌, ◌*◌}
use native.Mathlib.Omega.{arith}
use Rattle.text_out.proofs.Puts.{puts_then}
use Rattle.stl_format.specs.Format.{vertex_bytes}
use Rattle.stl.proofs.put_vertex.Goals as goal

pub put_single-j-requires : goal.put_single-j-requires
put_single-j-requires c =
    (omega arith, c.requires.1.singles (3 * c.args.a) (omega (arith, c.requires.1.there)))

pub put_single-l-requires : goal.put_single-l-requires
put_single-l-requires c =
    (omega (arith, c.put_single-j.ensures.1, c.requires.0), c.requires.1.singles (3 * c.args.a + 1) (omega (arith, c.requires.1.there)))

pub put_single-requires : goal.put_single-requires
put_single-requires c =
    (omega (arith, c.put_single-l.ensures.1, c.put_single-j.ensures.1, c.requires.0), c.requires.1.singles (3 * c.args.a + 2) (omega (arith, c.requires.1.there)))

pub returns : goal.returns
unfolding vertex_bytes
returns c =
    (puts_then (puts_then c.put_single-j.ensures.0 c.put_single-l.ensures.0) c.put_single.ensures.0, omega (arith, c.put_single.ensures.1, c.put_single-l.ensures.1, c.put_single-j.ensures.1))
