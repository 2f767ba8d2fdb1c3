use Rattle.mesh_readers.proofs.Steps.{edge_id}
use Rattle.mesh_readers.proofs.side.Goals as goal

pub returns : goal.returns
returns c = edge_id _ _ c.read_u32.ensures
