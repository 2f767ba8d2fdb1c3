-- `job_checks::used_out_of_range` meets its contract. Assumes nothing.
use mathlib.Core.Path.{sym, ◌∙◌}
use borrow.Author.Tests.{lt-ltb, le-ltb}
use Rattle.job_checks.specs.Refusals.{used_out_of_range}
use Rattle.job_checks.proofs.used_out_of_range.Goals as goal

pub returns-then-i-lt3 : goal.returns-then-i-lt3
unfolding used_out_of_range
returns-then-i-lt3 c = rw (sym c.out_of_range.ensures ∙ c.if-out_of_range.true, lt-ltb _ _ c.if-i-lt3.true)

pub returns-else-i-lt3 : goal.returns-else-i-lt3
unfolding used_out_of_range
returns-else-i-lt3 c = rw (sym c.out_of_range.ensures ∙ c.if-out_of_range.true, le-ltb _ _ c.if-i-lt3.false, c.kind_at.ensures)

pub returns-else-out_of_range : goal.returns-else-out_of_range
unfolding used_out_of_range
returns-else-out_of_range c = rw (sym c.out_of_range.ensures ∙ c.if-out_of_range.false) c.if-out_of_range.false
