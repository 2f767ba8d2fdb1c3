-- `slip_moves::read_head` meets its contract. Assumes nothing.
use Rattle.slip_moves.specs.Moves.{form_head_at}
use Rattle.slip_moves.proofs.read_head.Goals as goal

pub returns-in-Plain : goal.returns-in-Plain
unfolding form_head_at
returns-in-Plain c = rw c.in-Plain.is c.read_counts.ensures

pub returns-in-Groups : goal.returns-in-Groups
returns-in-Groups c = rw c.in-Groups.is c.read_groups_head.ensures
