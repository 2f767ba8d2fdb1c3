-- `job_checks::any_missing` meets its contract. Assumes nothing.
use mathlib.Core.Path.{◌∙◌}
use Rattle.std.proofs.Common.{rules, tests}
use Rattle.std.proofs.lemmas.Iterator.{YieldsList-from_slice}
use Rattle.std.proofs.lemmas.Iterator.Search.{any_from_yields_List}
use lib.Dec.{leb}
use Rattle.job_checks.specs.Refusals.{missing}
use Rattle.job_checks.proofs.Any.{any_element}
use Rattle.job_checks.proofs.any_missing.Goals as goal

pub returns : goal.returns
unfolding missing
returns c =
    any_from_yields_List (λ x. leb c.args.count x) _ _ _ c.any.ensures.ran (YieldsList-from_slice c.args.numbers.now cc) (λ x b q k. search (rules, tests)) ∙ any_element (λ x. leb c.args.count x) c.args.numbers.now 0
