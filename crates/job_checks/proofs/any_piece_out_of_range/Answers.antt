-- `job_checks::any_piece_out_of_range` meets its contract. The loop's invariant: none was found so far. Assumes nothing.
use mathlib.Core.Path.{sym, ◌∙◌}
use Rattle.job_checks.proofs.Any.{none_yet, none_more, found, none_at_all}
use Rattle.job_checks.proofs.any_piece_out_of_range.Goals as goal

pub loop-i-init : goal.loop-i-init
loop-i-init c = none_yet _

pub returns-then-used_out_of_range : goal.returns-then-used_out_of_range
returns-then-used_out_of_range c = sym (found _ _ _ c.loop-i-test.true (sym c.used_out_of_range.ensures ∙ c.if-used_out_of_range.true))

pub loop-i-preserved : goal.loop-i-preserved
loop-i-preserved c = none_more _ _ c.loop-i.invariant (sym c.used_out_of_range.ensures ∙ c.if-used_out_of_range.false)

pub returns : goal.returns
returns c = sym (none_at_all _ _ _ c.loop-i.auto.i-end c.loop-i-test.false c.loop-i.invariant)
