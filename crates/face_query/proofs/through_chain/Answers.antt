use mathlib.Core.Path.{refl, sym, ◌∙◌}
use native.Mathlib.Omega.{arith}
use Rattle.chains.specs.Chains.{links, link_at}
use Rattle.chains.proofs.Turns.{link_le}
use Rattle.face_query.proofs.Walks.{chain_done, count_done, one_window}
use Rattle.face_query.proofs.through_chain.Goals as goal

pub loop-left-init : goal.loop-left-init
loop-left-init c = refl

pub returns-then-at-eq0 : goal.returns-then-at-eq0
returns-then-at-eq0 c =
    let l = c.loop-left in
    let a = c.args in
    sym (chain_done a.made (links a.edge_words.now a.words.now) a.reals.now a.e.0 a.x a.y l.left l.before c.link_behind-at.result l.d c.link_behind-at.ensures c.if-at-eq0.true) ∙ l.invariant

pub through_link-d-requires : goal.through_link-d-requires
through_link-d-requires c =
    let l = c.loop-left in
    let a = c.args in
    omega (arith, c.requires, c.if-at-eq0.false, link_le a.made (link_at (links a.edge_words.now a.words.now) a.e.0 l.before) c.link_behind-at.result c.link_behind-at.ensures)

pub loop-left-preserved : goal.loop-left-preserved
loop-left-preserved c =
    let l = c.loop-left in
    let a = c.args in
    one_window a.made (links a.edge_words.now a.words.now) a.reals.now a.e.0 a.x a.y l.left l.before c.link_behind-at.result l.d c.through_link-d.result c.link_behind-at.ensures c.loop-left-test.true c.if-at-eq0.false c.through_link-d.ensures ∙ l.invariant

pub returns : goal.returns
returns c =
    let l = c.loop-left in
    let a = c.args in
    sym (count_done a.made (links a.edge_words.now a.words.now) a.reals.now a.e.0 a.x a.y l.left l.before l.d (omega (arith, c.loop-left-test.false))) ∙ l.invariant
