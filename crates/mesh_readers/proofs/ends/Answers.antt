use Rattle.mesh_readers.proofs.Steps.{ends_of}
use Rattle.mesh_readers.proofs.ends.Goals as goal

pub returns : goal.returns
returns c = ends_of _ _ _ _ c.read_u32.ensures c.read_u32-2.ensures
