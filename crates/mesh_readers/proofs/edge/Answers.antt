use Rattle.mesh_readers.proofs.Steps.{edge_of}
use Rattle.mesh_readers.proofs.edge.Goals as goal

pub returns : goal.returns
returns c = edge_of _ _ _ _ _ _ _ c.read_f64-len.ensures c.read_u32-low.ensures c.read_u32-high.ensures
