use mathlib.Core.Path.{sym, ◌∙◌}
use Rattle.job_checks.proofs.Any.{none_yet, none_more, found, none_at_all}
use Rattle.field_check.proofs.any_triangle_outside.Goals as goal

pub loop-f-init : goal.loop-f-init
loop-f-init c = none_yet _

pub returns-then-triangle_outside : goal.returns-then-triangle_outside
returns-then-triangle_outside c = sym (found _ _ _ c.loop-f-test.true (sym c.triangle_outside.ensures ∙ c.if-triangle_outside.true))

pub loop-f-preserved : goal.loop-f-preserved
loop-f-preserved c = none_more _ _ c.loop-f.invariant (sym c.triangle_outside.ensures ∙ c.if-triangle_outside.false)

pub returns : goal.returns
returns c = sym (none_at_all _ _ _ c.loop-f.auto.f-end c.loop-f-test.false c.loop-f.invariant)
