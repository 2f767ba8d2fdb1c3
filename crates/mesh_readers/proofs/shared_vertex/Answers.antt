use Rattle.mesh_readers.proofs.Steps.{vertex_id, shared_second, shared_first}
use Rattle.mesh_readers.proofs.shared_vertex.Goals as goal

pub returns-then-off_ends : goal.returns-then-off_ends
returns-then-off_ends c = let a = c in vertex_id _ _ (shared_second _ _ _ _ _ _ a.read_u32-a.ensures a.read_u32-low.ensures a.read_u32-high.ensures _ c.off_ends.ensures c.if-off_ends.true _ c.read_u32.ensures)

pub returns : goal.returns
returns c = let a = c in vertex_id _ _ (shared_first _ _ _ _ _ _ a.read_u32-a.ensures a.read_u32-low.ensures a.read_u32-high.ensures _ c.off_ends.ensures c.if-off_ends.false)
