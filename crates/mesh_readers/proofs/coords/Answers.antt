use Rattle.mesh_readers.proofs.Steps.{coords_of_lem}
use Rattle.mesh_readers.proofs.coords.Goals as goal

pub returns : goal.returns
returns c =
    coords_of_lem _ _ _ _ _ _ _ _ _ _ _ _ _ _ _ _ c.read_u32.ensures c.vertex-o.ensures c.sub-w.ensures c.unit-xhat.ensures c.local.ensures c.normal-yhat.ensures c.dot.ensures c.dot-2.ensures
