-- `stl::any_not_finite` meets its contract. Assumes nothing.
use borrow.Author.Rules.{rules}
use mathlib.Core.Path.{sym, ◌∙◌}
use native.Mathlib.Omega.{arith}
use Rattle.job_checks.proofs.Any.{none_yet, none_more, found, none_at_all}
use Rattle.stl.proofs.any_not_finite.Goals as goal

pub loop-h-init : goal.loop-h-init
loop-h-init c = (omega arith, none_yet _)

pub is_not_finite-requires : goal.is_not_finite-requires
is_not_finite-requires c = c.requires c.loop-h.h c.loop-h-test.true

pub returns-then-is_not_finite : goal.returns-then-is_not_finite
returns-then-is_not_finite c = sym (found _ _ _ c.loop-h-test.true (sym c.is_not_finite.ensures ∙ c.if-is_not_finite.true))

pub loop-h-preserved : goal.loop-h-preserved
loop-h-preserved c = (search rules, none_more _ _ c.loop-h.invariant.1 (sym c.is_not_finite.ensures ∙ c.if-is_not_finite.false))

pub returns : goal.returns
returns c = sym (none_at_all _ _ _ c.loop-h.invariant.0 c.loop-h-test.false c.loop-h.invariant.1)
