-- `carriers::edge_degree` meets its contract. Assumes nothing.
use Rattle.carriers.proofs.Steps.{faces_none, faces_second, faces_first, faces_both}
use mathlib.Core.Path.{◌≡◌, ap}
use Rattle.buffers.specs.declared.FaceId.{FaceId}
use Rattle.topology.specs.Edges.{no_face}
use Rattle.carriers.proofs.edge_degree.Goals as goal

none : {f : FaceId} → f ≡ record { 0 = no_face } → f.0 ≡ no_face
none h = ap (λ (f : FaceId). f.0) h

pub returns-then-second-none : goal.returns-then-second-none
returns-then-second-none c = let a = c in faces_none _ (none a.no_face-none.ensures) _ _ _ _ a.read_u32-first.ensures a.read_u32-second.ensures c.if-first-none.true c.if-second-none.true

pub returns-then-first-none : goal.returns-then-first-none
returns-then-first-none c = let a = c in faces_second _ (none a.no_face-none.ensures) _ _ _ _ a.read_u32-first.ensures a.read_u32-second.ensures c.if-first-none.true c.if-second-none.false

pub returns-then-second-none-2 : goal.returns-then-second-none-2
returns-then-second-none-2 c = let a = c in faces_first _ (none a.no_face-none.ensures) _ _ _ _ a.read_u32-first.ensures a.read_u32-second.ensures c.if-first-none.false c.if-second-none-2.true

pub returns : goal.returns
returns c = let a = c in faces_both _ (none a.no_face-none.ensures) _ _ _ _ a.read_u32-first.ensures a.read_u32-second.ensures c.if-first-none.false c.if-second-none-2.false
