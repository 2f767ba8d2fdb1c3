-- `stl::put_record` meets its contract. Assumes nothing.
use Prim.Native.Nat.{◌+◌, ◌*◌}
use native.Mathlib.Omega.{arith}
use Rattle.text_out.proofs.Puts.{puts_then}
use Rattle.stl_format.specs.Format.{record_bytes}
use Rattle.stl.proofs.put_record.Goals as goal

pub put_vertex-b-requires : goal.put_vertex-b-requires
put_vertex-b-requires c =
    (omega (arith, c.put_text-a.ensures.ends, c.requires.0), c.requires.1.1 (3 * c.args.t) (omega (arith, c.requires.1.0)))

pub put_vertex-c-requires : goal.put_vertex-c-requires
put_vertex-c-requires c =
    (omega (arith, c.put_vertex-b.ensures.1, c.put_text-a.ensures.ends, c.requires.0), c.requires.1.1 (3 * c.args.t + 1) (omega (arith, c.requires.1.0)))

pub put_vertex-d-requires : goal.put_vertex-d-requires
put_vertex-d-requires c =
    (omega (arith, c.put_vertex-c.ensures.1, c.put_vertex-b.ensures.1, c.put_text-a.ensures.ends, c.requires.0), c.requires.1.1 (3 * c.args.t + 2) (omega (arith, c.requires.1.0)))

pub returns : goal.returns
unfolding record_bytes
returns c = (
  puts_then (puts_then (puts_then (puts_then c.put_text-a.ensures c.put_vertex-b.ensures.0) c.put_vertex-c.ensures.0) c.put_vertex-d.ensures.0) c.put_text.ensures,
  omega (arith, c.put_text.ensures.ends, c.put_vertex-d.ensures.1, c.put_vertex-c.ensures.1, c.put_vertex-b.ensures.1, c.put_text-a.ensures.ends),
)
