use Rattle.edge_query.proofs.Resume.{cursor_ended, cursor_stays}
use borrow.Author.Rules.{rules}
use Rattle.edge_query.proofs.cursor_past.Goals as goal

pub returns-then-end-x : goal.returns-then-end-x
returns-then-end-x c =
    let a = c.args in
    cursor_ended a.reals.now a.x a.cursor a.link a.left a.bound c.read_f64-end.result c.read_f64-end.ensures c.if-end-x.true _ (search rules)

pub returns : goal.returns
returns c =
    let a = c.args in
    cursor_stays a.reals.now a.x a.cursor a.link a.left a.bound c.read_f64-end.result c.read_f64-end.ensures c.if-end-x.false
