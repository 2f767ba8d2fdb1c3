use mathlib.Core.Path.{sym, ◌∙◌}
use borrow.Author.Tests.{eq-eqb, ne_eqb}
use Rattle.trim_operations.proofs.is_queued.Goals as goal

pub returns-then-read_u32-eq1 : goal.returns-then-read_u32-eq1
returns-then-read_u32-eq1 c = sym (eq-eqb _ _ (sym c.read_u32.ensures ∙ c.if-read_u32-eq1.true))

pub returns : goal.returns
returns c = sym (ne_eqb _ _ (λ d. c.if-read_u32-eq1.false (c.read_u32.ensures ∙ d)))
