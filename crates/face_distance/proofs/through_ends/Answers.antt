-- `face_distance::through_ends` meets its contract. Assumes nothing.
use Rattle.face_distance.specs.Entries.{through_ends}
use Rattle.face_distance.proofs.through_ends.Goals as goal

pub returns : goal.returns
unfolding through_ends
returns c = c.min.ensures
