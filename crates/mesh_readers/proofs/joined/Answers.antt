use Rattle.mesh_readers.proofs.Steps.{joins_not_first, joins_not_second, joins_both}
use Rattle.mesh_readers.proofs.joined.Goals as goal

pub returns-then-off_ends : goal.returns-then-off_ends
returns-then-off_ends c = joins_not_first _ _ _ _ _ _ c.read_u32-low.ensures c.read_u32-high.ensures _ c.off_ends.ensures c.if-off_ends.true

pub returns-then-off_ends-2 : goal.returns-then-off_ends-2
returns-then-off_ends-2 c = let a = c in joins_not_second _ _ _ _ _ _ a.read_u32-low.ensures a.read_u32-high.ensures _ a.off_ends.ensures a.if-off_ends.false _ c.off_ends-2.ensures c.if-off_ends-2.true

pub returns : goal.returns
returns c = let a = c in joins_both _ _ _ _ _ _ a.read_u32-low.ensures a.read_u32-high.ensures _ a.off_ends.ensures a.if-off_ends.false _ c.off_ends-2.ensures c.if-off_ends-2.false
