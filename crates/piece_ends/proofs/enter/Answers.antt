-- `piece_ends::enter` meets its contract. Assumes nothing.
use mathlib.Core.Path.{sym, ◌∙◌}
use borrow.Author.Tests.{not-true, not-false}
use Rattle.piece_ends.proofs.Building.{entered_none, enter_done}
use Rattle.piece_ends.proofs.enter.Goals as goal

pub returns-then-not-is_end : goal.returns-then-not-is_end
returns-then-not-is_end c =
    let a = c.args in
    sym (entered_none a.kinds.now a.coords.now a.e a.words.now (sym c.is_end.ensures ∙ not-true _ c.if-not-is_end.true-raw))

pub returns : goal.returns
returns c =
    let a = c.args in
    enter_done a.kinds.now a.coords.now a.words.now _ _ a.e _ _ _ (sym c.is_end.ensures ∙ not-false _ c.if-not-is_end.false-raw) c.end_point.ensures c.bucket_of-b.ensures c.read_u32-head.ensures c.write_u32.ensures c.write_u32-2.ensures
