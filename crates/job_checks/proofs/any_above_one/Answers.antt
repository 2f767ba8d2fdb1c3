-- `job_checks::any_above_one` meets its contract. Assumes nothing.
use mathlib.Core.Path.{◌∙◌}
use Rattle.std.proofs.Common.{rules, tests}
use Rattle.std.proofs.lemmas.Iterator.{YieldsList-from_slice}
use Rattle.std.proofs.lemmas.Iterator.Search.{any_from_yields_List}
use lib.Dec.{ltb}
use Rattle.job_checks.specs.Refusals.{above_one}
use Rattle.job_checks.proofs.Any.{any_element}
use Rattle.job_checks.proofs.any_above_one.Goals as goal

pub returns : goal.returns
unfolding above_one
returns c =
    any_from_yields_List (λ x. ltb 1 x) _ _ _ c.any.ensures.ran (YieldsList-from_slice c.args.bytes.now cc) (λ x b q k. search (rules, tests)) ∙ any_element (λ x. ltb 1 x) c.args.bytes.now 0
