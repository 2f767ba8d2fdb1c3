-- `groups::put_number` meets its contract. Assumes nothing.
use Rattle.groups.specs.declared.Form.TheVariants.{Plain}
use Rattle.groups.specs.Groups.{number_of}
use native.Mathlib.Omega.{arith}
use Rattle.groups.proofs.Small.{number_length}
use Rattle.groups.proofs.put_number.Goals as goal

pub returns-in-Plain : goal.returns-in-Plain
unfolding number_of
returns-in-Plain c = rw c.in-Plain.is (c.put_number.ensures, omega (arith, c.put_number.ensures.ends, number_length Plain c.args.n))

pub returns-in-Groups : goal.returns-in-Groups
unfolding number_of
returns-in-Groups c = rw c.in-Groups.is c.put_groups.ensures
