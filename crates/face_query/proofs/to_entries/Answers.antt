use mathlib.Core.Path.{sym, ap, ◌∙◌}
use native.Mathlib.Omega.{arith}
use Rattle.face_query.proofs.Walks.{to_enter, entries_done, slots_done, one_entry}
use Rattle.face_query.proofs.to_entries.Goals as goal

pub loop-left-init : goal.loop-left-init
loop-left-init c =
    let a = c.args in
    ap (λ left. to_enter a.coords.now a.entry_words.now a.p left a.first a.far) c.capacity-left.ensures

pub returns-then-at-eq0 : goal.returns-then-at-eq0
returns-then-at-eq0 c =
    let l = c.loop-left in
    let a = c.args in
    sym (entries_done a.coords.now a.entry_words.now a.p l.left l.at l.d c.if-at-eq0.true) ∙ l.invariant

pub loop-left-preserved : goal.loop-left-preserved
loop-left-preserved c =
    let l = c.loop-left in
    let a = c.args in
    one_entry a.coords.now a.entry_words.now a.p l.left l.at c.next_entry-at.result l.d c.to_part.result c.min-d.result c.entry-x.result c.loop-left-test.true c.if-at-eq0.false c.entry-x.ensures c.to_part.ensures c.min-d.ensures c.next_entry-at.ensures ∙ l.invariant

pub returns : goal.returns
returns c =
    let l = c.loop-left in
    let a = c.args in
    sym (slots_done a.coords.now a.entry_words.now a.p l.left l.at l.d (omega (arith, c.loop-left-test.false))) ∙ l.invariant
