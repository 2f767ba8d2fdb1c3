use Rattle.mesh_readers.proofs.Steps.{side_to_0, side_to_1, side_to_2, side_to_none}
use Rattle.mesh_readers.proofs.side_to.Goals as goal

pub returns-then-has_face : goal.returns-then-has_face
returns-then-has_face c = side_to_0 _ _ _ _ _ c.read_u32.ensures _ c.has_face.ensures c.if-has_face.true

pub returns-then-has_face-2 : goal.returns-then-has_face-2
returns-then-has_face-2 c =
    side_to_1 _ _ _ _ _ c.read_u32.ensures _ c.has_face.ensures c.if-has_face.false _ c.read_u32-2.ensures _ c.has_face-2.ensures c.if-has_face-2.true

pub returns-then-has_face-3 : goal.returns-then-has_face-3
returns-then-has_face-3 c =
    side_to_2 _ _ _ _ _ c.read_u32.ensures _ c.has_face.ensures c.if-has_face.false _ c.read_u32-2.ensures _ c.has_face-2.ensures c.if-has_face-2.false _ c.read_u32-3.ensures _ c.has_face-3.ensures c.if-has_face-3.true

pub returns : goal.returns
returns c =
    side_to_none _ _ _ _ _ c.read_u32.ensures _ c.has_face.ensures c.if-has_face.false _ c.read_u32-2.ensures _ c.has_face-2.ensures c.if-has_face-2.false _ c.read_u32-3.ensures _ c.has_face-3.ensures c.if-has_face-3.false
