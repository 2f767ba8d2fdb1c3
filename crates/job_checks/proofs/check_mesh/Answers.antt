-- `job_checks::check_mesh` meets its contract. Assumes nothing.
use mathlib.Core.Path.{sym, ◌∙◌}
use Rattle.job_checks.specs.Refusals.{mesh_tests}
use Rattle.job_checks.proofs.Any.{first_holds, first_after, first_none}
use Rattle.job_checks.proofs.check_mesh.Goals as goal

pub returns-then-any_missing : goal.returns-then-any_missing
unfolding mesh_tests
returns-then-any_missing c = sym (first_holds _ _ _ (sym c.any_missing.ensures ∙ c.if-any_missing.true))

pub returns-then-any_repeated : goal.returns-then-any_repeated
unfolding mesh_tests
returns-then-any_repeated c = sym (first_after _ _ _ _ (sym c.any_missing.ensures ∙ c.if-any_missing.false) (first_holds _ _ _ (sym c.any_repeated.ensures ∙ c.if-any_repeated.true)))

pub returns-then-any_out_of_range : goal.returns-then-any_out_of_range
unfolding mesh_tests
returns-then-any_out_of_range c = sym (first_after _ _ _ _ (sym c.any_missing.ensures ∙ c.if-any_missing.false) (first_after _ _ _ _ (sym c.any_repeated.ensures ∙ c.if-any_repeated.false) (first_holds _ _ _ (sym c.any_out_of_range.ensures ∙ c.if-any_out_of_range.true))))

pub returns : goal.returns
unfolding mesh_tests
returns c = sym (first_after _ _ _ _ (sym c.any_missing.ensures ∙ c.if-any_missing.false) (first_after _ _ _ _ (sym c.any_repeated.ensures ∙ c.if-any_repeated.false) (first_after _ _ _ _ (sym c.any_out_of_range.ensures ∙ c.if-any_out_of_range.false) first_none)))
