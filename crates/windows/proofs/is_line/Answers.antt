use Rattle.windows.specs.Windows.{is_line}
use borrow.Author.Rules.{rules}
use Rattle.windows.proofs.is_line.Goals as goal

pub returns-in-Point : goal.returns-in-Point
unfolding is_line
returns-in-Point c = search rules

pub returns-in-Line : goal.returns-in-Line
unfolding is_line
returns-in-Line c = search rules
