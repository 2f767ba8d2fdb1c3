-- `stl::is_not_finite` meets its contract. Assumes nothing.
use mathlib.Core.Path.{sym, ap, ◌∙◌}
use mathlib.Core.Bool.{true, false}
use borrow.Author.Tests.{not-true, not-false}
use lib.Ieee.Scale.{finite}
use Rattle.stl.proofs.Same.{first_not, second_not, third_is}
use Rattle.stl.proofs.is_not_finite.Goals as goal

pub returns-then-not-is_finite : goal.returns-then-not-is_finite
returns-then-not-is_finite c =
    first_not _ _ (ap finite (sym c.coordinate_at.ensures) ∙ (sym c.is_finite.ensures ∙ not-true _ c.if-not-is_finite.true-raw))

pub returns-then-not-is_finite-2 : goal.returns-then-not-is_finite-2
returns-then-not-is_finite-2 c =
    second_not _ _ (ap finite (sym c.coordinate_at.ensures) ∙ (sym c.is_finite.ensures ∙ not-false _ c.if-not-is_finite.false-raw)) (ap finite (sym c.coordinate_at-2.ensures) ∙ (sym c.is_finite-2.ensures ∙ not-true _ c.if-not-is_finite-2.true-raw))

pub returns-then-not-is_finite-3 : goal.returns-then-not-is_finite-3
returns-then-not-is_finite-3 c =
    third_is _ _ false (ap finite (sym c.coordinate_at.ensures) ∙ (sym c.is_finite.ensures ∙ not-false _ c.if-not-is_finite.false-raw)) (ap finite (sym c.coordinate_at-2.ensures) ∙ (sym c.is_finite-2.ensures ∙ not-false _ c.if-not-is_finite-2.false-raw)) (ap finite (sym c.coordinate_at-3.ensures) ∙ (sym c.is_finite-3.ensures ∙ not-true _ c.if-not-is_finite-3.true-raw))

pub returns : goal.returns
returns c =
    third_is _ _ true (ap finite (sym c.coordinate_at.ensures) ∙ (sym c.is_finite.ensures ∙ not-false _ c.if-not-is_finite.false-raw)) (ap finite (sym c.coordinate_at-2.ensures) ∙ (sym c.is_finite-2.ensures ∙ not-false _ c.if-not-is_finite-2.false-raw)) (ap finite (sym c.coordinate_at-3.ensures) ∙ (sym c.is_finite-3.ensures ∙ not-false _ c.if-not-is_finite-3.false-raw))
