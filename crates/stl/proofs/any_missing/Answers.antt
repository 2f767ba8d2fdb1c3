-- `stl::any_missing` meets its contract. The loop's invariant: none was found so far. Assumes nothing.
use mathlib.Core.Path.{sym}
use Rattle.job_checks.proofs.Any.{none_yet, none_more, found, none_at_all}
use Rattle.job_checks.proofs.Tests.{is_missing, not_missing}
use Rattle.stl.proofs.any_missing.Goals as goal

pub loop-v-init : goal.loop-v-init
loop-v-init c = none_yet _

pub returns-then-wide-count : goal.returns-then-wide-count
returns-then-wide-count c = sym (found _ _ _ c.loop-v-test.true (is_missing _ _ _ (rw c.wide.ensures at c.if-wide-count.true)))

pub loop-v-preserved : goal.loop-v-preserved
loop-v-preserved c = none_more _ _ c.loop-v.invariant (not_missing _ _ _ (rw c.wide.ensures at c.if-wide-count.false))

pub returns : goal.returns
returns c = sym (none_at_all _ _ _ c.loop-v.auto.v-index-end c.loop-v-test.false c.loop-v.invariant)
