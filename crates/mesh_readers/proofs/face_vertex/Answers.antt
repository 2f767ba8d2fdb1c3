use Rattle.mesh_readers.proofs.Steps.{vertex_id}
use Rattle.mesh_readers.proofs.face_vertex.Goals as goal

pub returns : goal.returns
returns c = vertex_id _ _ c.read_u32.ensures
