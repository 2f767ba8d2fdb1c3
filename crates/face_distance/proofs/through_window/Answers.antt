-- `face_distance::through_window` meets its contract. Assumes nothing.
use Rattle.face_distance.specs.Entries.{through_window}
use Rattle.face_distance.proofs.through_window.Goals as goal

pub returns-then-y-w : goal.returns-then-y-w
unfolding through_window
returns-then-y-w c = rw (c.nearer.ensures, c.if-y-w.true)

pub returns : goal.returns
unfolding through_window
returns c = rw c.if-y-w.false
