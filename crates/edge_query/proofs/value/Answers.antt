use mathlib.Core.Path.{ap, ◌∙◌}
use Rattle.float64.specs.Scalar.{zero64}
use Rattle.source.specs.Distance.{eval_of}
use Rattle.windows.specs.declared.WindowRecord.{WindowRecord}
use Rattle.edge_query.proofs.Forward.{no_number, value_none, value_some}
use Rattle.edge_query.proofs.value.Goals as goal

pub returns-then-link-eq0 : goal.returns-then-link-eq0
returns-then-link-eq0 c =
    let a = c.args in
    no_number ∙ value_none a.words.now a.reals.now a.x a.link c.if-link-eq0.true

pub returns : goal.returns
returns c =
    let a = c.args in
    value_some a.words.now a.reals.now a.x a.link c.if-link-eq0.false c.eval.result (c.eval.ensures ∙ ap (λ (y : WindowRecord). eval_of y.win a.x zero64) c.load-window.ensures)
