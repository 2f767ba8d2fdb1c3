use Rattle.field_check.specs.FieldCheck.{too_few_slots}
use Rattle.field_check.proofs.too_few_slots.Goals as goal

pub returns : goal.returns
unfolding too_few_slots
returns c =
    rw (c.either-3.ensures, c.either-2.ensures, c.either.ensures, c.over-d.ensures, c.over-c.ensures, c.over-b.ensures, c.over-a.ensures, c.capacity-made.ensures, c.slots-vertices.ensures, c.count-triangles.ensures, c.count-edges.ensures)
