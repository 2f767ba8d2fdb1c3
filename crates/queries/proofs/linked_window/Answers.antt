use Rattle.queries.proofs.Places.{linked_none, linked_some}
use Rattle.queries.proofs.linked_window.Goals as goal

pub returns-then-link-eq0 : goal.returns-then-link-eq0
returns-then-link-eq0 c =
    let a = c.args in
    linked_none a.words.now a.reals.now a.link c.if-link-eq0.true

pub returns : goal.returns
returns c =
    let a = c.args in
    linked_some a.words.now a.reals.now a.link c.load-window.result c.if-link-eq0.false c.load-window.ensures
