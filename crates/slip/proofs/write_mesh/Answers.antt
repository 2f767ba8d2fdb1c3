-- `slip::write_mesh` meets its contract. Assumes nothing.
use Rattle.slip.specs.Format.{job_in}
use Rattle.slip.proofs.write_mesh.Goals as goal

pub returns : goal.returns
unfolding job_in
returns c = (
  rw c.count-n.ensures.0 at c.read_doubles.ensures,
  (
    rw (c.count.ensures.0, c.triangles_from-from.ensures.0) at c.read_numbers.ensures,
    rw (c.count-n.ensures.0, c.flags_from-flags_start.ensures.0) at c.read_bytes.ensures,
  ),
)
