use mathlib.Core.Bool.{not}
use mathlib.Core.Path.{sym, ap, ◌∙◌}
use borrow.Author.Tests.{eq-eqb, ne_eqb}
use Rattle.field_check.specs.FieldCheck.{records_differ}
use Rattle.field_check.proofs.differ.Goals as goal

pub returns-then-elements-due : goal.returns-then-elements-due
unfolding records_differ
returns-then-elements-due c = sym (ap not (eq-eqb _ _ (c.if-elements-due.true ∙ c.product-due.ensures)))

pub returns : goal.returns
unfolding records_differ
returns c = sym (ap not (ne_eqb _ _ (λ e. c.if-elements-due.false (e ∙ sym c.product-due.ensures))))
