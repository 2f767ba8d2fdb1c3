use Rattle.mesh_readers.proofs.Steps.{has_first, has_second, has_neither}
use Rattle.mesh_readers.proofs.has_face.Goals as goal

pub returns-then-read_u32-h : goal.returns-then-read_u32-h
returns-then-read_u32-h c = has_first _ 0 _ _ _ c.read_u32.ensures c.if-read_u32-h.true

pub returns-then-read_u32-h-2 : goal.returns-then-read_u32-h-2
returns-then-read_u32-h-2 c = has_second _ _ _ _ _ c.read_u32.ensures c.if-read_u32-h.false c.read_u32-2.ensures c.if-read_u32-h-2.true

pub returns : goal.returns
returns c = has_neither _ _ _ _ _ c.read_u32.ensures c.if-read_u32-h.false c.read_u32-2.ensures c.if-read_u32-h-2.false
