use mathlib.Core.Path.{sym, ◌∙◌}
use Rattle.job_checks.proofs.Any.{none_yet, none_more, found, none_at_all}
use Rattle.field_check.proofs.any_edge_outside.Goals as goal

pub loop-e-init : goal.loop-e-init
loop-e-init c = none_yet _

pub returns-then-edge_outside : goal.returns-then-edge_outside
returns-then-edge_outside c = sym (found _ _ _ c.loop-e-test.true (sym c.edge_outside.ensures ∙ c.if-edge_outside.true))

pub loop-e-preserved : goal.loop-e-preserved
loop-e-preserved c = none_more _ _ c.loop-e.invariant (sym c.edge_outside.ensures ∙ c.if-edge_outside.false)

pub returns : goal.returns
returns c = sym (none_at_all _ _ _ c.loop-e.auto.e-end c.loop-e-test.false c.loop-e.invariant)
