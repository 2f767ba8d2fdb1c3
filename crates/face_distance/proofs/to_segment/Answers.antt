-- `face_distance::to_segment` meets its contract. Assumes nothing.
use Rattle.face_distance.specs.Entries.{to_segment}
use Rattle.face_distance.proofs.to_segment.Goals as goal

pub returns : goal.returns
unfolding to_segment
returns c = rw (c.norm.ensures, c.sub-2.ensures, c.axpy.ensures, c.clamp-s.ensures, c.max.ensures, c.dot-2.ensures, c.dot.ensures, c.sub.ensures, c.sub-ab.ensures)
