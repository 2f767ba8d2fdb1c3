use mathlib.Core.Path.{sym}
use Rattle.job_checks.proofs.Any.{none_yet, none_more, found, none_at_all}
use Rattle.job_checks.proofs.Tests.{above_one_lem, not_above_one}
use Rattle.field_check.proofs.any_above_one.Goals as goal

pub loop-kind-init : goal.loop-kind-init
loop-kind-init c = none_yet _

pub returns-then-kind-gt1 : goal.returns-then-kind-gt1
returns-then-kind-gt1 c = sym (found _ _ _ c.loop-kind-test.true (above_one_lem _ _ c.if-kind-gt1.true))

pub loop-kind-preserved : goal.loop-kind-preserved
loop-kind-preserved c = none_more _ _ c.loop-kind.invariant (not_above_one _ _ c.if-kind-gt1.false)

pub returns : goal.returns
returns c = sym (none_at_all _ _ _ c.loop-kind.auto.kind-index-end c.loop-kind-test.false c.loop-kind.invariant)
