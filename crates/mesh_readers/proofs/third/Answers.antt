use Rattle.mesh_readers.proofs.Steps.{vertex_id, third_first, third_second, third_last}
use Rattle.mesh_readers.proofs.third.Goals as goal

pub returns-then-off_ends : goal.returns-then-off_ends
returns-then-off_ends c =
    vertex_id _ _ (third_first _ _ _ _ _ _ _ c.read_u32-low.ensures c.read_u32-high.ensures c.read_u32-a.ensures _ c.off_ends.ensures c.if-off_ends.true)

pub returns-then-off_ends-2 : goal.returns-then-off_ends-2
returns-then-off_ends-2 c =
    vertex_id _ _ (third_second _ _ _ _ _ _ _ c.read_u32-low.ensures c.read_u32-high.ensures c.read_u32-a.ensures _ c.off_ends.ensures c.if-off_ends.false _ c.read_u32-b.ensures _ c.off_ends-2.ensures c.if-off_ends-2.true)

pub returns : goal.returns
returns c =
    vertex_id _ _ (third_last _ _ _ _ _ _ _ c.read_u32-low.ensures c.read_u32-high.ensures c.read_u32-a.ensures _ c.off_ends.ensures c.if-off_ends.false _ c.read_u32-b.ensures _ c.off_ends-2.ensures c.if-off_ends-2.false _ c.read_u32.ensures)
