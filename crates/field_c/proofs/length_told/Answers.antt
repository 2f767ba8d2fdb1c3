-- `field_c::length_told` meets its contract. Assumes nothing.
use Rattle.field_c.specs.Slips.{length_told}
use borrow.Author.Rules.{rules}
use Rattle.field_c.proofs.length_told.Goals as goal

pub returns-in-Some : goal.returns-in-Some
unfolding length_told
returns-in-Some c = search rules

pub returns-in-None : goal.returns-in-None
unfolding length_told
returns-in-None c = search rules
