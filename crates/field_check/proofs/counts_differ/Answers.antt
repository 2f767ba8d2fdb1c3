use Rattle.field_check.specs.FieldCheck.{counts_differ}
use Rattle.field_check.proofs.counts_differ.Goals as goal

pub returns : goal.returns
unfolding counts_differ
returns c = rw (c.either-4.ensures, c.either-3.ensures, c.either-2.ensures, c.either.ensures, c.differ-e.ensures, c.differ-d.ensures, c.differ-c.ensures, c.differ-b.ensures, c.differ-a.ensures)
