use Rattle.live_windows.proofs.Walks.{starts_late, ends_late, passes_both}
use Rattle.live_windows.proofs.passes_by.Goals as goal

pub returns-then-lo-end : goal.returns-then-lo-end
returns-then-lo-end c =
    let a = c.args in
    ends_late a.b0 a.lo a.reals.now a.i c.read_f64-start.result c.read_f64-end.result c.read_f64-start.ensures c.read_f64-end.ensures c.if-start-b0.true c.if-lo-end.true

pub returns-then-start-b0 : goal.returns-then-start-b0
returns-then-start-b0 c =
    let a = c.args in
    passes_both a.b0 a.lo a.reals.now a.i c.read_f64-start.result c.read_f64-end.result c.read_f64-start.ensures c.read_f64-end.ensures c.if-start-b0.true c.if-lo-end.false

pub returns : goal.returns
returns c =
    let a = c.args in
    starts_late a.b0 a.lo a.reals.now a.i c.read_f64-start.result c.read_f64-end.result c.read_f64-start.ensures c.read_f64-end.ensures c.if-start-b0.false
