-- `piece_ends::seek` meets its contract. The invariant: what is found from here with the steps that are left is what is found from the start. Assumes nothing.
use mathlib.Core.Path.{refl}
use native.Mathlib.Omega.{arith}
use Rattle.piece_ends.specs.Walk.{end_link_at, stands_at}
use Rattle.piece_ends.proofs.Following.{search_ends, search_spent, search_found, search_next}
use Rattle.piece_ends.proofs.Seeking.{stands_said}
use borrow.Author.Rules.{rules}
use Rattle.piece_ends.proofs.seek.Goals as goal

pub loop-rest-init : goal.loop-rest-init
loop-rest-init c = (search rules, (omega arith, refl))

pub returns-then-at-eq0 : goal.returns-then-at-eq0
returns-then-at-eq0 c =
    let a = c.args in
    search_ends (end_link_at a.words.now) (stands_at a.coords.now a.p) _ c.loop-rest.rest c.loop-rest.at c.loop-rest.invariant.1.1 c.if-at-eq0.true

pub returns-then-same_bits : goal.returns-then-same_bits
returns-then-same_bits c =
    let a = c.args in
    search_found (end_link_at a.words.now) (stands_at a.coords.now a.p) _ c.loop-rest.rest c.loop-rest.at c.loop-rest.invariant.1.1 c.loop-rest-test.true c.if-at-eq0.false _ (stands_said a.coords.now a.p _ _ _ c.end_point.ensures c.same_bits.ensures) c.if-same_bits.true

pub loop-rest-preserved : goal.loop-rest-preserved
loop-rest-preserved c =
    let a = c.args in
    (search rules, (omega (arith, c.loop-rest.invariant.1.0), search_next (end_link_at a.words.now) (stands_at a.coords.now a.p) _ c.loop-rest.rest c.loop-rest.at c.loop-rest.invariant.1.1 c.loop-rest-test.true c.if-at-eq0.false _ (stands_said a.coords.now a.p _ _ _ c.end_point.ensures c.same_bits.ensures) _ c.next_link-at.ensures c.if-same_bits.false))

pub returns : goal.returns
returns c =
    let a = c.args in
    search_spent (end_link_at a.words.now) (stands_at a.coords.now a.p) _ c.loop-rest.rest c.loop-rest.at c.loop-rest.invariant.1.1 c.loop-rest-test.false
