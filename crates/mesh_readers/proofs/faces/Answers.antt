use Rattle.mesh_readers.proofs.Steps.{faces_of_lem}
use Rattle.mesh_readers.proofs.faces.Goals as goal

pub returns : goal.returns
returns c = faces_of_lem _ _ _ _ c.read_u32.ensures c.read_u32-2.ensures
