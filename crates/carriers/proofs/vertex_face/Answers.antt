-- `carriers::vertex_face` meets its contract. Assumes nothing.
use Rattle.carriers.proofs.Steps.{round_face_is}
use Rattle.carriers.proofs.vertex_face.Goals as goal

pub returns : goal.returns
returns c = let a = c.args in round_face_is a.round.now c.read_u32-start.result _ a.i c.read_u32.result c.read_u32-start.ensures c.read_u32.ensures
