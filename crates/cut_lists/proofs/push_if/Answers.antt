-- `cut_lists::push_if` meets its contract. Assumes nothing.
use mathlib.Core.Path.{sym}
use mathlib.Core.List.{append-nil}
use Rattle.better.specs.Buffers.{pairs}
use Rattle.cut_lists.proofs.push_if.Goals as goal

pub shape_of-out-then-b : goal.shape_of-out-then-b
shape_of-out-then-b c = c.push.auto.out

pub returns-then-b : goal.returns-then-b
returns-then-b c = rw c.if-b.true c.push.ensures

pub returns : goal.returns
returns c =
    let a = c.args in
    rw c.if-b.false (c.requires, sym (append-nil (pairs a.n a.out.now)))
