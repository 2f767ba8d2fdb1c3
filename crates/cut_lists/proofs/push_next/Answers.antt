-- `cut_lists::push_next` meets its contract. Assumes nothing.
use mathlib.Core.Path.{◌∙◌}
use lib.ListN.{length}
use Rattle.better.specs.Buffers.{pairs}
use Rattle.cut_lists.proofs.Pushes.{apart, left_full, inner_full, right_held}
use Rattle.cut_lists.proofs.push_next.Goals as goal

pub shape_of-out-then-o1-o0 : goal.shape_of-out-then-o1-o0
shape_of-out-then-o1-o0 c = c.push.auto.out

pub returns-then-o1-o0 : goal.returns-then-o1-o0
returns-then-o1-o0 c =
    let a = c.args in
    let gs = pairs a.n a.out.now in
    let better = pairs a.m a.better.now in
    apart a.lo a.hi better a.k0 a.k1 c.max-o0.result c.min-o1.result c.max-o0.ensures c.min-o1.ensures gs c.push.result c.push.new.out c.if-o1-o0.true c.push.ensures

pub shape_of-out-in_err-a : goal.shape_of-out-in_err-a
shape_of-out-in_err-a c = c.push_if.auto.out

pub returns-in_err-a : goal.returns-in_err-a
returns-in_err-a c =
    let a = c.args in
    let gs = pairs a.n a.out.now in
    let better = pairs a.m a.better.now in
    let h = c.in_err-a.ensures in
    rw c.from_residual.ensures (left_full a.lo a.hi better a.k0 a.k1 c.max-o0.result c.min-o1.result c.max-o0.ensures c.min-o1.ensures gs (length c.push_if.new.out) c.if-o1-o0.false h)

pub push_cuts-requires : goal.push_cuts-requires
push_cuts-requires c =
    let e = c.in_ok-a.ensures in
    (c.requires.0, e.0)

pub shape_of-out-in_err-b : goal.shape_of-out-in_err-b
shape_of-out-in_err-b c =
    c.push_cuts.auto.out ∙ c.push_if.auto.out

pub returns-in_err-b : goal.returns-in_err-b
returns-in_err-b c =
    let a = c.args in
    let gs = pairs a.n a.out.now in
    let better = pairs a.m a.better.now in
    let e = c.in_ok-a.ensures in
    let h = c.in_err-b.ensures in
    rw c.from_residual-in_err-b.ensures (inner_full a.lo a.hi better a.k0 a.k1 c.max-o0.result c.min-o1.result c.max-o0.ensures c.min-o1.ensures gs (length c.push_cuts.new.out) (pairs c.in_ok-a.a c.push_if.new.out) c.if-o1-o0.false e.1 h)

pub push_if-requires-2 : goal.push_if-requires-2
push_if-requires-2 c =
    let d = c.in_ok-b.ensures in
    d.0

pub shape_of-out : goal.shape_of-out
shape_of-out c =
    c.push_if-2.auto.out ∙ c.push_cuts.auto.out ∙ c.push_if.auto.out

pub returns : goal.returns
returns c =
    let a = c.args in
    let gs = pairs a.n a.out.now in
    let better = pairs a.m a.better.now in
    let e = c.in_ok-a.ensures in
    let d = c.in_ok-b.ensures in
    right_held a.lo a.hi better a.k0 a.k1 c.max-o0.result c.min-o1.result c.max-o0.ensures c.min-o1.ensures gs c.push_if-2.result c.push_if-2.new.out (pairs c.in_ok-a.a c.push_if.new.out) (pairs c.in_ok-b.b c.push_cuts.new.out) c.if-o1-o0.false e.1 d.1 c.push_if-2.ensures
