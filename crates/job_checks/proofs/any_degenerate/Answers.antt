-- `job_checks::any_degenerate` meets its contract. The loop's invariant: none was found so far. Assumes nothing.
use mathlib.Core.Path.{sym, ◌∙◌}
use Rattle.job_checks.proofs.Any.{none_yet, none_more, found, none_at_all}
use Rattle.job_checks.proofs.any_degenerate.Goals as goal

pub loop-t-init : goal.loop-t-init
loop-t-init c = none_yet _

pub returns-then-degenerate_triangle : goal.returns-then-degenerate_triangle
returns-then-degenerate_triangle c = sym (found _ _ _ c.loop-t-test.true (sym c.degenerate_triangle.ensures ∙ c.if-degenerate_triangle.true))

pub loop-t-preserved : goal.loop-t-preserved
loop-t-preserved c = none_more _ _ c.loop-t.invariant (sym c.degenerate_triangle.ensures ∙ c.if-degenerate_triangle.false)

pub returns : goal.returns
returns c = sym (none_at_all _ _ _ c.loop-t.auto.t-end c.loop-t-test.false c.loop-t.invariant)
