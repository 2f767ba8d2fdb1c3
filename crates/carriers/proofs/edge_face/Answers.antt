-- `carriers::edge_face` meets its contract. Assumes nothing.
use Rattle.carriers.proofs.Steps.{face_second, face_past_second, face_first, face_behind, face_past}
use Rattle.carriers.proofs.edge_face.Goals as goal

pub returns-then-i-eq0 : goal.returns-then-i-eq0
returns-then-i-eq0 c = let a = c in face_second _ a.no_face-none.ensures _ _ _ _ _ a.read_u32-first.ensures a.read_u32-second.ensures c.if-first-none.true c.if-i-eq0.true

pub returns-then-first-none : goal.returns-then-first-none
returns-then-first-none c = let a = c in face_past_second _ a.no_face-none.ensures _ _ _ _ _ a.read_u32-first.ensures a.read_u32-second.ensures c.if-first-none.true c.if-i-eq0.false

pub returns-then-i-eq0-2 : goal.returns-then-i-eq0-2
returns-then-i-eq0-2 c = let a = c in face_first _ a.no_face-none.ensures _ _ _ _ _ a.read_u32-first.ensures a.read_u32-second.ensures c.if-first-none.false c.if-i-eq0-2.true

pub returns-then-i-eq1 : goal.returns-then-i-eq1
returns-then-i-eq1 c = let a = c in face_behind _ a.no_face-none.ensures _ _ _ _ _ a.read_u32-first.ensures a.read_u32-second.ensures c.if-first-none.false c.if-i-eq1.true

pub returns : goal.returns
returns c = let a = c in face_past _ a.no_face-none.ensures _ _ _ _ _ a.read_u32-first.ensures a.read_u32-second.ensures c.if-first-none.false c.if-i-eq0-2.false c.if-i-eq1.false
