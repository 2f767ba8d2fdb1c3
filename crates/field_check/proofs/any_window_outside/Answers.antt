use mathlib.Core.Path.{sym, ◌∙◌}
use Rattle.job_checks.proofs.Any.{none_yet, none_more, found, none_at_all}
use Rattle.field_check.proofs.any_window_outside.Goals as goal

pub loop-i-init : goal.loop-i-init
loop-i-init c = none_yet _

pub returns-then-window_outside : goal.returns-then-window_outside
returns-then-window_outside c = sym (found _ _ _ c.loop-i-test.true (sym c.window_outside.ensures ∙ c.if-window_outside.true))

pub loop-i-preserved : goal.loop-i-preserved
loop-i-preserved c = none_more _ _ c.loop-i.invariant (sym c.window_outside.ensures ∙ c.if-window_outside.false)

pub returns : goal.returns
returns c = sym (none_at_all _ _ _ c.loop-i.auto.i-end c.loop-i-test.false c.loop-i.invariant)
