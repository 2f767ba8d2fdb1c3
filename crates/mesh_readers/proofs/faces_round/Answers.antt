use Rattle.mesh_readers.proofs.Steps.{range_of}
use Rattle.mesh_readers.proofs.faces_round.Goals as goal

pub returns : goal.returns
returns c = range_of _ _ _ _ c.read_u32.ensures c.read_u32-2.ensures
