-- `job_checks::any_out_of_range` meets its contract. Assumes nothing.
use mathlib.Core.Path.{◌∙◌}
use Rattle.std.proofs.Common.{rules, tests}
use Rattle.std.proofs.lemmas.Iterator.{YieldsList-from_slice}
use Rattle.std.proofs.lemmas.Iterator.Search.{any_from_yields_List}
use lib.Ieee.{nan}
use Rattle.job_checks.specs.Refusals.{out_of_range}
use Rattle.job_checks.proofs.Any.{any_element}
use Rattle.job_checks.proofs.any_out_of_range.Goals as goal

pub returns : goal.returns
returns c =
    any_from_yields_List out_of_range _ _ _ c.any.ensures.ran (YieldsList-from_slice c.args.coords.now cc) (λ x b q k. search (rules, tests)) ∙ any_element out_of_range c.args.coords.now nan
