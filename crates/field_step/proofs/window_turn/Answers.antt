use mathlib.Core.Path.{ap, ◌∙◌}
use Rattle.field_step.specs.Step.{window_turn}
use Rattle.field_step.proofs.Leaves.{window_goes, window_stays}
use Rattle.field_step.proofs.window_turn.Goals as goal

pub returns-then-goes_on : goal.returns-then-goes_on
returns-then-goes_on c =
    let a = c.args in
    window_goes a.limit c.load-x.result c.goes_on.result c.goes_on.ensures c.if-goes_on.true ∙ ap (window_turn a.limit) c.load-x.ensures

pub returns : goal.returns
returns c =
    let a = c.args in
    window_stays a.limit c.load-x.result c.goes_on.result c.goes_on.ensures c.if-goes_on.false ∙ ap (window_turn a.limit) c.load-x.ensures
