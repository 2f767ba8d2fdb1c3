use mathlib.Core.Bool.{not, ◌||◌}
use mathlib.Core.Path.{◌∙◌}
use lib.Ieee.{lt}
use Rattle.field_check.specs.FieldCheck.{window_unsound}
use Rattle.field_check.proofs.window_unsound.Goals as goal

pub returns : goal.returns
unfolding window_unsound
returns c =
    let a = c.args in
    c.either.ensures ∙ (λ j. (c.not_below-a.ensures ∙ (λ k. not (lt (c.read_f64-start.ensures k) (c.read_f64.ensures k)))) j || c.not_rising.ensures a.i c.read_f64-start.ensures j)
