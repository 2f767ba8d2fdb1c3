use mathlib.Core.Path.{ap, ◌∙◌}
use Rattle.face_entries.specs.Buffers.{part_of_number, part_at}
use Rattle.face_entries.proofs.entry.Goals as goal

pub returns : goal.returns
unfolding part_at
returns c = λ t. record { piece = c.read_u32-piece.ensures t; part = (c.part_of-part.ensures ∙ ap part_of_number c.read_u32.ensures) t }
