-- `stored_bytes::holds_bytes` meets its contract. The loop's invariant: no other byte was found so far. Assumes nothing.
use mathlib.Core.Path.{sym, ap, ◌∙◌}
use mathlib.Core.Bool.{not}
use Rattle.job_checks.proofs.Any.{none_yet, none_more, found, none_at_all}
use Rattle.stored_bytes.proofs.Places.{expected_byte, unexpected_byte}
use borrow.Author.Rules.{rules}
use Rattle.stored_bytes.proofs.holds_bytes.Goals as goal

pub loop-i-init : goal.loop-i-init
loop-i-init c = (search rules, none_yet _)

pub returns-then-u32_of_byte-expected : goal.returns-then-u32_of_byte-expected
returns-then-u32_of_byte-expected c =
    sym (ap not (found _ _ _ c.loop-i-test.true (unexpected_byte _ _ _ _ _ (λ e. c.if-u32_of_byte-expected.true (c.u32_of_byte.ensures.0 ∙ e ∙ sym c.expected.ensures)))))

pub loop-i-preserved : goal.loop-i-preserved
loop-i-preserved c =
    (search rules, none_more _ _ c.loop-i.invariant.1 (expected_byte _ _ _ _ _ (sym c.u32_of_byte.ensures.0 ∙ c.if-u32_of_byte-expected.false ∙ c.expected.ensures)))

pub returns : goal.returns
returns c = sym (ap not (none_at_all _ _ _ c.loop-i.invariant.0 c.loop-i-test.false c.loop-i.invariant.1))
