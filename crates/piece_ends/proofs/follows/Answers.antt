-- `piece_ends::follows` meets its contract. Assumes nothing.
use mathlib.Core.Path.{sym, ◌∙◌}
use native.Mathlib.Omega.{arith}
use borrow.Author.Tests.{not-true, not-false}
use Rattle.piece_ends.proofs.Seeking.{no_end_before, before_no_end, before_has}
use Rattle.piece_ends.proofs.follows.Goals as goal

pub returns-then-e-eq0 : goal.returns-then-e-eq0
returns-then-e-eq0 c =
    let a = c.args in
    no_end_before a.kinds.now a.coords.now a.e (omega (arith, c.if-e-eq0.true))

pub returns-then-not-is_end : goal.returns-then-not-is_end
returns-then-not-is_end c =
    let a = c.args in
    before_no_end a.kinds.now a.coords.now a.e (omega (arith, c.if-e-eq0.false)) (sym c.is_end.ensures ∙ not-true _ c.if-not-is_end.true-raw)

pub returns : goal.returns
returns c =
    let a = c.args in
    before_has a.kinds.now a.coords.now a.e _ _ _ (omega (arith, c.if-e-eq0.false)) (sym c.is_end.ensures ∙ not-false _ c.if-not-is_end.false-raw) c.end_point.ensures c.end_point-2.ensures c.same_bits.ensures
