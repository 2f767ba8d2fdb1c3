-- `face_distance::through_vertex` meets its contract. Assumes nothing.
use Rattle.face_distance.specs.Entries.{through_vertex}
use Rattle.face_distance.proofs.through_vertex.Goals as goal

pub returns : goal.returns
unfolding through_vertex
returns c = rw (c.norm.ensures, c.sub.ensures)
