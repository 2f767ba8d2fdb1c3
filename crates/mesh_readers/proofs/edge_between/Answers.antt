use Rattle.mesh_readers.proofs.Steps.{edge_id, between_first, between_second, between_third}
use Rattle.mesh_readers.proofs.edge_between.Goals as goal

pub returns-then-joined : goal.returns-then-joined
returns-then-joined c = edge_id _ _ (between_first _ _ _ _ _ _ c.read_u32-first.ensures _ c.joined.ensures c.if-joined.true)

pub returns-then-joined-2 : goal.returns-then-joined-2
returns-then-joined-2 c = let a = c in edge_id _ _ (between_second _ _ _ _ _ _ a.read_u32-first.ensures _ a.joined.ensures a.if-joined.false _ c.read_u32-second.ensures _ c.joined-2.ensures c.if-joined-2.true)

pub returns : goal.returns
returns c = let b = c in let a = b in edge_id _ _ (between_third _ _ _ _ _ _ a.read_u32-first.ensures _ a.joined.ensures a.if-joined.false _ b.read_u32-second.ensures _ b.joined-2.ensures b.if-joined-2.false _ c.read_u32.ensures)
