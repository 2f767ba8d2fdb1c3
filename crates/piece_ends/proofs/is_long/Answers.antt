-- `piece_ends::is_long` meets its contract. Assumes nothing.
use mathlib.Core.Path.{refl, sym, ◌∙◌}
use borrow.Author.Tests.{not-true, not-false}
use Rattle.piece_ends.proofs.NormAbove.{norm_above, norm_not_above}
use Rattle.piece_ends.proofs.Unit.{no_second, long_is, short_is}
use Rattle.piece_ends.proofs.is_long.Goals as goal

pub returns-then-not-is_end : goal.returns-then-not-is_end
returns-then-not-is_end c =
    let a = c.args in
    sym (no_second a.kinds.now a.coords.now a.i (sym c.is_end.ensures ∙ not-true _ c.if-not-is_end.true-raw))

pub returns-then-dot : goal.returns-then-dot
returns-then-dot c =
    let a = c.args in
    sym (long_is a.kinds.now a.coords.now a.i _ _ _ _ c.end_point-a.ensures c.end_point-b.ensures c.sub-d.ensures refl (sym c.is_end.ensures ∙ not-false _ c.if-not-is_end.false-raw)
    (norm_above c.sub-d.result c.dot.result c.dot.ensures c.if-dot.true))

pub returns : goal.returns
returns c =
    let a = c.args in
    sym (short_is a.kinds.now a.coords.now a.i _ _ _ _ c.end_point-a.ensures c.end_point-b.ensures c.sub-d.ensures refl (norm_not_above c.sub-d.result c.dot.result c.dot.ensures c.if-dot.false))
