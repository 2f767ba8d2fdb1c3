use Rattle.field_check.specs.FieldCheck.{triangle_outside}
use Rattle.field_check.proofs.triangle_outside.Goals as goal

pub returns : goal.returns
unfolding triangle_outside
returns c =
    rw (c.either-4.ensures, c.either-3.ensures, c.either-2.ensures, c.either.ensures, c.over-e.ensures, c.read_u32-5.ensures, c.over-d.ensures, c.read_u32-4.ensures, c.past-c.ensures, c.read_u32-3.ensures, c.past-b.ensures, c.read_u32-2.ensures, c.past-a.ensures, c.read_u32.ensures)
