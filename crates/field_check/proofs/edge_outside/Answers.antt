use Rattle.field_check.specs.FieldCheck.{edge_outside}
use Rattle.field_check.proofs.edge_outside.Goals as goal

pub returns : goal.returns
unfolding edge_outside
returns c =
    rw (c.either-4.ensures, c.either-3.ensures, c.either-2.ensures, c.either.ensures, c.over-f.ensures, c.read_u32-5.ensures, c.face_outside-d.ensures, c.read_u32-4.ensures, c.face_outside-c.ensures, c.read_u32-3.ensures, c.past-b.ensures, c.read_u32-2.ensures, c.past-a.ensures, c.read_u32.ensures)
