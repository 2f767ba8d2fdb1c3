use mathlib.Core.Path.{refl, ◌∙◌}
use native.Mathlib.Omega.{arith}
use Rattle.chains.specs.Chains.{links, link_at}
use Rattle.chains.proofs.Turns.{link_le}
use Rattle.queries.proofs.Places.{place_past, place_out, place_here, place_on}
use Rattle.queries.proofs.place_link.Goals as goal

pub loop-left-init : goal.loop-left-init
loop-left-init c = (omega arith, refl)

pub returns-then-at-eq0 : goal.returns-then-at-eq0
returns-then-at-eq0 c =
    let l = c.loop-left in
    let a = c.args in
    record { value = place_past a.made (links a.edge_words.now a.words.now) a.e.0 l.skip l.left l.before c.link_at-at.result c.link_at-at.ensures c.if-at-eq0.true ∙ l.invariant.1; upper_bound = omega arith }

pub returns-then-skip-eq0 : goal.returns-then-skip-eq0
returns-then-skip-eq0 c =
    let l = c.loop-left in
    let a = c.args in
    let b = links a.edge_words.now a.words.now in record { value = place_here a.made b a.e.0 l.skip l.left l.before c.link_at-at.result c.link_at-at.ensures c.loop-left-test.true c.if-at-eq0.false c.if-skip-eq0.true ∙ l.invariant.1; upper_bound = link_le a.made (link_at b a.e.0 l.before) c.link_at-at.result c.link_at-at.ensures }

pub loop-left-preserved : goal.loop-left-preserved
loop-left-preserved c =
    let l = c.loop-left in
    let a = c.args in
    let b = links a.edge_words.now a.words.now in (
      link_le a.made (link_at b a.e.0 l.before) c.link_at-at.result c.link_at-at.ensures,
      place_on a.made b a.e.0 l.skip l.left l.before c.link_at-at.result c.link_at-at.ensures c.loop-left-test.true c.if-at-eq0.false c.if-skip-eq0.false ∙ l.invariant.1,
    )

pub returns : goal.returns
returns c =
    let l = c.loop-left in
    let a = c.args in
    record { value = place_out a.made (links a.edge_words.now a.words.now) a.e.0 l.skip l.left l.before (omega (arith, c.loop-left-test.false)) ∙ l.invariant.1; upper_bound = omega arith }
