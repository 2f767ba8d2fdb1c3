-- `groups::read_number` meets its contract. Assumes nothing.
use Rattle.groups.proofs.Small.{groups_found}
use Rattle.groups.proofs.read_number.Goals as goal

pub returns-in-Plain : goal.returns-in-Plain
returns-in-Plain c = rw c.in-Plain.is c.read_plain.ensures

pub returns-in-Groups : goal.returns-in-Groups
returns-in-Groups c = rw c.in-Groups.is (groups_found c.args.s.now c.args.i c.read_groups.result c.read_groups.ensures)
