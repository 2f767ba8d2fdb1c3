-- `job_checks::check` meets its contract: each way out is the first of the tests that holds. Assumes nothing.
use mathlib.Core.Path.{refl, sym, ◌∙◌}
use native.Mathlib.Omega.{arith}
use Rattle.job_checks.specs.Refusals.{mesh_tests, piece_tests, refusals}
use Rattle.job_checks.proofs.Any.{first_holds, first_after, first_none, group_holds, group_passed}
use Rattle.job_checks.proofs.Numbers.{refused, handed_on}
use Rattle.job_checks.proofs.check.Goals as goal

pub returns-then-is_malformed : goal.returns-then-is_malformed
unfolding refusals mesh_tests piece_tests
returns-then-is_malformed c = sym (first_holds _ _ _ (sym c.is_malformed.ensures ∙ c.if-is_malformed.true))

pub returns-in_err-check_mesh : goal.returns-in_err-check_mesh
unfolding refusals mesh_tests piece_tests
returns-in_err-check_mesh c =
    handed_on _ _ _ c.from_residual.ensures.1
    (sym
    (first_after _ _ _ _ (sym c.is_malformed.ensures ∙ c.if-is_malformed.false)
    (group_holds _ _ _ c.in_err-check_mesh.ensures (refused _))))

pub returns-then-any_degenerate : goal.returns-then-any_degenerate
unfolding refusals mesh_tests piece_tests
returns-then-any_degenerate c =
    sym
    (first_after _ _ _ _ (sym c.is_malformed.ensures ∙ c.if-is_malformed.false)
    (group_passed _ _ 0 c.in_ok-check_mesh.ensures (omega arith, (omega arith, (omega arith, tt))) _ refl
    (first_holds _ _ _ (sym c.any_degenerate.ensures ∙ c.if-any_degenerate.true))))

pub returns-in_err-check_pieces : goal.returns-in_err-check_pieces
unfolding refusals mesh_tests piece_tests
returns-in_err-check_pieces c =
    handed_on _ _ _ c.from_residual-in_err-check_pieces.ensures.1
    (sym
    (first_after _ _ _ _ (sym c.is_malformed.ensures ∙ c.if-is_malformed.false)
    (group_passed _ _ 0 c.in_ok-check_mesh.ensures (omega arith, (omega arith, (omega arith, tt))) _ refl
    (first_after _ _ _ _ (sym c.any_degenerate.ensures ∙ c.if-any_degenerate.false)
    (group_holds _ _ _ c.in_err-check_pieces.ensures (refused _))))))

pub returns-then-limit_out_of_range : goal.returns-then-limit_out_of_range
unfolding refusals mesh_tests piece_tests
returns-then-limit_out_of_range c =
    sym
    (first_after _ _ _ _ (sym c.is_malformed.ensures ∙ c.if-is_malformed.false)
    (group_passed _ _ 0 c.in_ok-check_mesh.ensures (omega arith, (omega arith, (omega arith, tt))) _ refl
    (first_after _ _ _ _ (sym c.any_degenerate.ensures ∙ c.if-any_degenerate.false)
    (group_passed _ _ 0 c.in_ok-check_pieces.ensures (omega arith, (omega arith, tt)) _ refl
    (first_holds _ _ _ (sym c.limit_out_of_range.ensures ∙ c.if-limit_out_of_range.true))))))

pub returns-then-short_buffer : goal.returns-then-short_buffer
unfolding refusals mesh_tests piece_tests
returns-then-short_buffer c =
    sym
    (first_after _ _ _ _ (sym c.is_malformed.ensures ∙ c.if-is_malformed.false)
    (group_passed _ _ 0 c.in_ok-check_mesh.ensures (omega arith, (omega arith, (omega arith, tt))) _ refl
    (first_after _ _ _ _ (sym c.any_degenerate.ensures ∙ c.if-any_degenerate.false)
    (group_passed _ _ 0 c.in_ok-check_pieces.ensures (omega arith, (omega arith, tt)) _ refl
    (first_after _ _ _ _ (sym c.limit_out_of_range.ensures ∙ c.if-limit_out_of_range.false)
    (first_holds _ _ _ (sym c.short_buffer.ensures ∙ c.if-short_buffer.true)))))))

pub returns : goal.returns
unfolding refusals mesh_tests piece_tests
returns c =
    sym
    (first_after _ _ _ _ (sym c.is_malformed.ensures ∙ c.if-is_malformed.false)
    (group_passed _ _ 0 c.in_ok-check_mesh.ensures (omega arith, (omega arith, (omega arith, tt))) _ refl
    (first_after _ _ _ _ (sym c.any_degenerate.ensures ∙ c.if-any_degenerate.false)
    (group_passed _ _ 0 c.in_ok-check_pieces.ensures (omega arith, (omega arith, tt)) _ refl
    (first_after _ _ _ _ (sym c.limit_out_of_range.ensures ∙ c.if-limit_out_of_range.false)
    (first_after _ _ _ _ (sym c.short_buffer.ensures ∙ c.if-short_buffer.false)
    first_none))))))
