-- `point_wedge::narrow_behind` meets its contract. The invariant: the part from here with the steps that are left is the part from the start. Assumes nothing.
use mathlib.Core.Path.{refl, ◌∙◌}
use native.Mathlib.Omega.{arith}
use Rattle.segments_behind.specs.Behind.{next_behind_at, leaving_at}
use borrow.Author.Rules.{rules}
use Rattle.point_wedge.proofs.Steps.{narrow_ends, narrow_spent, narrow_turn, walk_is}
use Rattle.point_wedge.proofs.narrow_behind.Goals as goal

pub loop-rest-init : goal.loop-rest-init
loop-rest-init c = (search rules, (omega arith, refl))

pub returns-then-at-eq0 : goal.returns-then-at-eq0
returns-then-at-eq0 c =
    let a = c.args in
    narrow_ends a.o a.p a.xhat a.plane (leaving_at a.reals.now) (next_behind_at a.kinds.now a.faces.now a.coords.now a.words.now a.pieces a.f.0) _ c.loop-rest.rest c.loop-rest.at c.loop-rest.part c.loop-rest.invariant.1.1 c.if-at-eq0.true
    ∙ walk_is a.kinds.now a.faces.now a.coords.now a.words.now a.reals.now a.pieces a.f.0 a.first a.plane a.o a.p a.xhat a.w _ c.first_behind-at.ensures

pub loop-rest-preserved : goal.loop-rest-preserved
loop-rest-preserved c =
    let a = c.args in
    (search rules, (omega (arith, c.loop-rest.invariant.1.0), narrow_turn a.o a.p a.xhat a.plane (leaving_at a.reals.now) (next_behind_at a.kinds.now a.faces.now a.coords.now a.words.now a.pieces a.f.0) _ c.loop-rest.rest c.loop-rest.at c.loop-rest.part c.loop-rest.invariant.1.1 c.loop-rest-test.true c.if-at-eq0.false _ c.behind_end-part.ensures _ c.next_behind-at.ensures))

pub returns : goal.returns
returns c =
    let a = c.args in
    narrow_spent a.o a.p a.xhat a.plane (leaving_at a.reals.now) (next_behind_at a.kinds.now a.faces.now a.coords.now a.words.now a.pieces a.f.0) _ c.loop-rest.rest c.loop-rest.at c.loop-rest.part c.loop-rest.invariant.1.1 c.loop-rest-test.false
    ∙ walk_is a.kinds.now a.faces.now a.coords.now a.words.now a.reals.now a.pieces a.f.0 a.first a.plane a.o a.p a.xhat a.w _ c.first_behind-at.ensures
