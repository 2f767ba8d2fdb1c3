-- `stl::any_not_single` meets its contract. Assumes nothing.
use mathlib.Core.Path.{sym, ap, ◌∙◌}
use mathlib.Core.Bool.{not}
use Rattle.job_checks.proofs.Any.{none_yet, none_more, found, none_at_all}
use borrow.Author.Tests.{not-true, not-false}
use Rattle.stl_format.specs.Answers.{not_single}
use Rattle.stl.proofs.any_not_single.Goals as goal

pub loop-x-init : goal.loop-x-init
loop-x-init c = none_yet _

pub returns-then-not-is_single : goal.returns-then-not-is_single
unfolding not_single
returns-then-not-is_single c = sym (found _ _ _ c.loop-x-test.true (ap not (sym c.is_single.ensures ∙ not-true _ c.if-not-is_single.true-raw)))

pub loop-x-preserved : goal.loop-x-preserved
unfolding not_single
loop-x-preserved c = none_more _ _ c.loop-x.invariant (ap not (sym c.is_single.ensures ∙ not-false _ c.if-not-is_single.false-raw))

pub returns : goal.returns
returns c = sym (none_at_all _ _ _ c.loop-x.auto.x-index-end c.loop-x-test.false c.loop-x.invariant)
