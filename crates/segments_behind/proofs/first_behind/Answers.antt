-- `segments_behind::first_behind` meets its contract. The invariant: what is found from here with the steps that are left is what is found from the start. Assumes nothing.
use mathlib.Core.Path.{refl}
use native.Mathlib.Omega.{arith}
use borrow.Author.Rules.{rules}
use Rattle.piece_ends.specs.Walk.{next_link_at}
use Rattle.piece_ends.proofs.Following.{search_ends, search_spent, search_found, search_next}
use Rattle.segments_behind.specs.Behind.{in_face}
use Rattle.segments_behind.proofs.first_behind.Goals as goal

pub loop-rest-init : goal.loop-rest-init
loop-rest-init c = (search rules, (omega arith, refl))

pub returns-then-at-eq0 : goal.returns-then-at-eq0
returns-then-at-eq0 c =
    let a = c.args in
    search_ends (next_link_at a.coords.now a.words.now a.pieces) (in_face a.kinds.now a.faces.now a.coords.now a.g.0) _ c.loop-rest.rest c.loop-rest.at c.loop-rest.invariant.1.1 c.if-at-eq0.true

pub returns-then-in_face : goal.returns-then-in_face
returns-then-in_face c =
    let a = c.args in
    search_found (next_link_at a.coords.now a.words.now a.pieces) (in_face a.kinds.now a.faces.now a.coords.now a.g.0) _ c.loop-rest.rest c.loop-rest.at c.loop-rest.invariant.1.1 c.loop-rest-test.true c.if-at-eq0.false _ c.in_face.ensures c.if-in_face.true

pub loop-rest-preserved : goal.loop-rest-preserved
loop-rest-preserved c =
    let a = c.args in
    (search rules, (omega (arith, c.loop-rest.invariant.1.0), search_next (next_link_at a.coords.now a.words.now a.pieces) (in_face a.kinds.now a.faces.now a.coords.now a.g.0) _ c.loop-rest.rest c.loop-rest.at c.loop-rest.invariant.1.1 c.loop-rest-test.true c.if-at-eq0.false _ c.in_face.ensures _ c.next_at-at.ensures c.if-in_face.false))

pub returns : goal.returns
returns c =
    let a = c.args in
    search_spent (next_link_at a.coords.now a.words.now a.pieces) (in_face a.kinds.now a.faces.now a.coords.now a.g.0) _ c.loop-rest.rest c.loop-rest.at c.loop-rest.invariant.1.1 c.loop-rest-test.false
