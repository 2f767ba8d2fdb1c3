-- `carriers::nearest_vertex` meets its contract. Assumes nothing.
use Rattle.carriers.proofs.Steps.{nearest_is}
use Rattle.carriers.proofs.nearest_vertex.Goals as goal

pub returns : goal.returns
returns c = let a = c in nearest_is _ _ _ _ _ _ _ _ _ a.face_vertex-a.ensures a.face_vertex-b.ensures a.face_vertex-c.ensures c.nearer.ensures c.nearer-2.ensures
