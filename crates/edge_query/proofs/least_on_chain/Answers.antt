use Prim.Native.Nat.{◌-◌}
use mathlib.Core.Path.{sym, ap, ◌∙◌}
use native.Mathlib.Omega.{arith}
use lib.Ieee.{Float}
use Rattle.float64.specs.Scalar.{min_of}
use Rattle.chains.specs.Chains.{links, link_at}
use Rattle.chains.proofs.Turns.{link_le}
use Rattle.edge_query.proofs.Forward.{no_number, past_within, to_come, at_end_lem, at_count, passes, stops}
use Rattle.edge_query.proofs.Resume.{trails_start, walks_on, trails_on}
use Rattle.edge_query.proofs.least_on_chain.Goals as goal

pub loop-left-init : goal.loop-left-init
loop-left-init c =
    let a = c.args in
    let b = links a.edge_words.now a.words.now in
    let r = c.requires.1.1.0 in (
      r.link_made,
      (
        r.left_made,
        (
          r.link_made,
          (
            ap (λ (y : Float). to_come a.made b a.reals.now a.from.edge a.x a.d a.from.left a.from.link (record { least = y; short = a.from.link })) no_number ∙ c.requires.1.1.1 a.d,
            trails_start a.made b a.reals.now a.from r,
          ),
        ),
      ),
    )

pub returns-then-at-eq0 : goal.returns-then-at-eq0
returns-then-at-eq0 c =
    let l = c.loop-left in
    let a = c.args in
    let nearest =
    c.min-distance.ensures
    ∙ ap (min_of a.d) c.value_passed.ensures
    ∙ sym (at_end_lem a.made (links a.edge_words.now a.words.now) a.reals.now a.from.edge a.x a.d l.left l.before c.link_at-at.result l.passed c.link_at-at.ensures c.if-at-eq0.true)
    ∙ l.invariant.1.1.1.0 in
    record { distance_value = nearest; resumes = l.invariant.1.1.1.1.resumes }

pub past-passed-requires : goal.past-passed-requires
past-passed-requires c =
    let l = c.loop-left in
    let a = c.args in
    let g = link_le a.made (link_at (links a.edge_words.now a.words.now) a.from.edge l.before) c.link_at-at.result c.link_at-at.ensures in
    (omega (arith, c.if-at-eq0.false), omega (arith, g, c.requires.0))

pub cursor_past-cursor-requires : goal.cursor_past-cursor-requires
cursor_past-cursor-requires c = omega (arith, c.if-at-eq0.false)

pub loop-left-smaller : goal.loop-left-smaller
loop-left-smaller c = omega (arith, c.loop-left-test.true)

pub loop-left-preserved : goal.loop-left-preserved
loop-left-preserved c =
    let l = c.loop-left in
    let a = c.args in
    let b = links a.edge_words.now a.words.now in
    let g = link_le a.made (link_at b a.from.edge l.before) c.link_at-at.result c.link_at-at.ensures in
    let le = c.if-start-x.true in
    let trails = walks_on a.made b a.reals.now a.from.edge l.left l.before c.link_at-at.result c.link_at-at.ensures c.loop-left-test.true c.if-at-eq0.false l.invariant.1.0 a.x c.read_f64-start.result c.read_f64-start.ensures le l.bound l.cursor l.invariant.1.1.1.1 in (
      g,
      (
        omega (arith, l.invariant.1.0),
        (
          rw c.past-passed.ensures (past_within a.words.now a.reals.now a.x a.made l.passed (c.link_at-at.result - 1) l.invariant.1.1.0 (omega (arith, g, c.if-at-eq0.false))),
          (
            ap (to_come a.made b a.reals.now a.from.edge a.x a.d (l.left - 1) c.link_at-at.result) c.past-passed.ensures
                ∙ passes a.made b a.reals.now a.from.edge a.x a.d l.left l.before c.link_at-at.result l.passed c.link_at-at.ensures c.loop-left-test.true c.if-at-eq0.false c.read_f64-start.result c.read_f64-start.ensures le
                ∙ l.invariant.1.1.1.0,
            trails_on a.made b a.reals.now a.from.edge (l.left - 1) c.link_at-at.result a.x _ _ _ _ c.max-bound.ensures c.cursor_past-cursor.ensures trails,
          ),
        ),
      ),
    )

pub value-requires : goal.value-requires
value-requires c =
    let l = c.loop-left in
    let a = c.args in
    omega (arith, link_le a.made (link_at (links a.edge_words.now a.words.now) a.from.edge l.before) c.link_at-at.result c.link_at-at.ensures, c.requires.0)

pub returns-else-start-x : goal.returns-else-start-x
returns-else-start-x c =
    let l = c.loop-left in
    let a = c.args in
    let nearest =
    c.min-distance-else-start-x.ensures
    ∙ (λ i. min_of ((c.min-next.ensures ∙ ap (min_of a.d) c.value.ensures) i) (c.value_passed-else-start-x.ensures i))
    ∙ sym (stops a.made (links a.edge_words.now a.words.now) a.reals.now a.from.edge a.x a.d l.left l.before c.link_at-at.result l.passed c.link_at-at.ensures c.loop-left-test.true c.if-at-eq0.false c.read_f64-start.result c.read_f64-start.ensures c.if-start-x.false)
    ∙ l.invariant.1.1.1.0 in
    record { distance_value = nearest; resumes = l.invariant.1.1.1.1.resumes }

pub returns : goal.returns
returns c =
    let l = c.loop-left in
    let a = c.args in
    let nearest =
    c.min-distance-2.ensures
    ∙ ap (min_of a.d) c.value_passed-2.ensures
    ∙ sym (at_count a.made (links a.edge_words.now a.words.now) a.reals.now a.from.edge a.x a.d l.left l.before l.passed (omega (arith, c.loop-left-test.false)))
    ∙ l.invariant.1.1.1.0 in
    record { distance_value = nearest; resumes = l.invariant.1.1.1.1.resumes }
