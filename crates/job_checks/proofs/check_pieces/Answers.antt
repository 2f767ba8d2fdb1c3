-- `job_checks::check_pieces` meets its contract. Assumes nothing.
use mathlib.Core.Path.{sym, ◌∙◌}
use Rattle.job_checks.specs.Refusals.{piece_tests}
use Rattle.job_checks.proofs.Any.{first_holds, first_after, first_none}
use Rattle.job_checks.proofs.check_pieces.Goals as goal

pub returns-then-any_missing : goal.returns-then-any_missing
unfolding piece_tests
returns-then-any_missing c = sym (first_holds _ _ _ (sym c.any_missing.ensures ∙ c.if-any_missing.true))

pub returns-then-any_piece_out_of_range : goal.returns-then-any_piece_out_of_range
unfolding piece_tests
returns-then-any_piece_out_of_range c = sym (first_after _ _ _ _ (sym c.any_missing.ensures ∙ c.if-any_missing.false) (first_holds _ _ _ (sym c.any_piece_out_of_range.ensures ∙ c.if-any_piece_out_of_range.true)))

pub returns : goal.returns
unfolding piece_tests
returns c = sym (first_after _ _ _ _ (sym c.any_missing.ensures ∙ c.if-any_missing.false) (first_after _ _ _ _ (sym c.any_piece_out_of_range.ensures ∙ c.if-any_piece_out_of_range.false) first_none))
