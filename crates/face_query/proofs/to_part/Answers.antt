use Rattle.face_query.specs.FaceDistance.{to_part}
use Rattle.face_query.proofs.to_part.Goals as goal

pub returns-in-EndA : goal.returns-in-EndA
unfolding to_part
returns-in-EndA c = rw c.in-EndA.is c.to_first.ensures

pub returns-in-EndB : goal.returns-in-EndB
unfolding to_part
returns-in-EndB c = rw c.in-EndB.is c.to_second.ensures

pub returns-in-Whole : goal.returns-in-Whole
unfolding to_part
returns-in-Whole c = rw c.in-Whole.is c.to_whole.ensures
