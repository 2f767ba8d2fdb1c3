use Rattle.mesh_readers.proofs.Steps.{face_id, other_here, other_there}
use Rattle.mesh_readers.proofs.other.Goals as goal

pub returns-then-first-f : goal.returns-then-first-f
returns-then-first-f c = face_id _ _ (other_here _ _ _ _ _ c.read_u32-first.ensures c.read_u32-second.ensures c.if-first-f.true)

pub returns : goal.returns
returns c = face_id _ _ (other_there _ _ _ _ c.read_u32-first.ensures c.if-first-f.false)
