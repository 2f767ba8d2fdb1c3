use Rattle.trim_operations.proofs.Reading.{read_point, read_line, read_pop, read_touch, read_unknown, read_candidate}
use Rattle.trim_operations.proofs.operation_at.Goals as goal

pub returns-then-kind-eq0 : goal.returns-then-kind-eq0
returns-then-kind-eq0 c = let a = c.args in read_point a.ops.now a.args.now a.k c.read_u32-kind.result c.read_u32-kind.ensures c.if-kind-eq0.true _ (read_candidate a.ops.now a.args.now a.k _ _ _ c.read_u32-number.ensures c.new_window_at-w.ensures)

pub returns-then-kind-eq1 : goal.returns-then-kind-eq1
returns-then-kind-eq1 c =
    let read_u32 = c.read_u32-kind in
    let a = c.args in
    read_line a.ops.now a.args.now a.k read_u32.result read_u32.ensures c.if-kind-eq0.false c.if-kind-eq1.true _
    (read_candidate a.ops.now a.args.now a.k _ _ _ c.read_u32-number.ensures c.new_window_at-w-then-kind-eq1.ensures)

pub returns-then-kind-eq2 : goal.returns-then-kind-eq2
returns-then-kind-eq2 c = let a = c.args in read_pop a.ops.now a.args.now a.k c.read_u32-kind.result c.read_u32-kind.ensures c.if-kind-eq0.false c.if-kind-eq1.false c.if-kind-eq2.true

pub returns-then-kind-eq3 : goal.returns-then-kind-eq3
returns-then-kind-eq3 c =
    let read_u32 = c.read_u32-kind in
    let a = c.args in
    read_touch a.ops.now a.args.now a.k read_u32.result read_u32.ensures c.if-kind-eq0.false c.if-kind-eq1.false c.if-kind-eq2.false c.if-kind-eq3.true _ _
    c.read_u32-number.ensures c.read_f64-d.ensures

pub returns : goal.returns
returns c = let a = c.args in read_unknown a.ops.now a.args.now a.k c.read_u32-kind.result c.read_u32-kind.ensures c.if-kind-eq0.false c.if-kind-eq1.false c.if-kind-eq2.false c.if-kind-eq3.false
