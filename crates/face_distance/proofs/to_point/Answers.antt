-- `face_distance::to_point` meets its contract. Assumes nothing.
use Rattle.face_distance.specs.Entries.{to_point}
use Rattle.face_distance.proofs.to_point.Goals as goal

pub returns : goal.returns
unfolding to_point
returns c = rw (c.norm.ensures, c.sub.ensures)
