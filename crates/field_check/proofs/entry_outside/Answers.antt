use Rattle.field_check.specs.FieldCheck.{entry_outside}
use Rattle.field_check.proofs.entry_outside.Goals as goal

pub returns : goal.returns
unfolding entry_outside
returns c = rw (c.either-2.ensures, c.either.ensures, c.over-c.ensures, c.read_u32-3.ensures, c.over-b.ensures, c.read_u32-2.ensures, c.past-a.ensures, c.read_u32.ensures, c.requires)
