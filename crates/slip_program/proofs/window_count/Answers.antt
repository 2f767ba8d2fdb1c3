-- `slip_program::window_count` meets its contract. Assumes nothing.
use Rattle.slip_program.specs.Fronts.{windows_told}
use borrow.Author.Rules.{rules}
use Rattle.slip_program.proofs.window_count.Goals as goal

pub returns-in-Refused : goal.returns-in-Refused
unfolding windows_told
returns-in-Refused c = search rules

pub returns-in-Field : goal.returns-in-Field
unfolding windows_told
returns-in-Field c = search rules
