-- `segments_behind::seek_round` meets its contract. The invariant: what is found from here with the steps that are left is what is found from the start. Assumes nothing.
use mathlib.Core.Path.{refl}
use native.Mathlib.Omega.{arith}
use borrow.Author.Rules.{rules}
use Rattle.piece_ends.specs.Walk.{next_link_at}
use Rattle.piece_ends.proofs.Following.{search_ends, search_spent, search_found, search_next}
use Rattle.segments_behind.specs.Round.{is_round}
use Rattle.segments_behind.proofs.seek_round.Goals as goal

pub loop-rest-init : goal.loop-rest-init
loop-rest-init c = (search rules, (omega arith, refl))

pub returns-then-at-eq0 : goal.returns-then-at-eq0
returns-then-at-eq0 c =
    let a = c.args in
    search_ends (next_link_at a.coords.now a.words.now a.pieces) (is_round a.kinds.now a.faces.now a.coords.now a.triangles.now a.k.0) _ c.loop-rest.rest c.loop-rest.at c.loop-rest.invariant.1.1 c.if-at-eq0.true

pub returns-then-is_round : goal.returns-then-is_round
returns-then-is_round c =
    let a = c.args in
    search_found (next_link_at a.coords.now a.words.now a.pieces) (is_round a.kinds.now a.faces.now a.coords.now a.triangles.now a.k.0) _ c.loop-rest.rest c.loop-rest.at c.loop-rest.invariant.1.1 c.loop-rest-test.true c.if-at-eq0.false _ c.is_round.ensures c.if-is_round.true

pub loop-rest-preserved : goal.loop-rest-preserved
loop-rest-preserved c =
    let a = c.args in
    (search rules, (omega (arith, c.loop-rest.invariant.1.0), search_next (next_link_at a.coords.now a.words.now a.pieces) (is_round a.kinds.now a.faces.now a.coords.now a.triangles.now a.k.0) _ c.loop-rest.rest c.loop-rest.at c.loop-rest.invariant.1.1 c.loop-rest-test.true c.if-at-eq0.false _ c.is_round.ensures _ c.next_at-at.ensures c.if-is_round.false))

pub returns : goal.returns
returns c =
    let a = c.args in
    search_spent (next_link_at a.coords.now a.words.now a.pieces) (is_round a.kinds.now a.faces.now a.coords.now a.triangles.now a.k.0) _ c.loop-rest.rest c.loop-rest.at c.loop-rest.invariant.1.1 c.loop-rest-test.false
