-- `piece_ends::is_first` meets its contract. Assumes nothing.
use mathlib.Core.Path.{sym, ◌∙◌}
use borrow.Author.Tests.{not-true, not-false}
use Rattle.piece_ends.proofs.Seeking.{no_end, end_follows, end_leads}
use Rattle.piece_ends.proofs.is_first.Goals as goal

pub returns-then-not-is_end : goal.returns-then-not-is_end
returns-then-not-is_end c =
    let a = c.args in
    no_end a.kinds.now a.coords.now a.words.now a.pieces a.e (sym c.is_end.ensures ∙ not-true _ c.if-not-is_end.true-raw)

pub returns-then-follows : goal.returns-then-follows
returns-then-follows c =
    let a = c.args in
    end_follows a.kinds.now a.coords.now a.words.now a.pieces a.e (sym c.is_end.ensures ∙ not-false _ c.if-not-is_end.false-raw) (sym c.follows.ensures ∙ c.if-follows.true)

pub returns : goal.returns
returns c =
    let a = c.args in
    end_leads a.kinds.now a.coords.now a.words.now a.pieces a.e c.leads.result (sym c.is_end.ensures ∙ not-false _ c.if-not-is_end.false-raw) (sym c.follows.ensures ∙ c.if-follows.false) c.leads.ensures
