use native.Mathlib.Omega.{arith}
use mathlib.Core.Path.{refl, sym, ◌∙◌}
use Rattle.float64.specs.Notation.{◌⊖◌}
use Rattle.chains.specs.Chains.{links}
use Rattle.live_windows.proofs.Walks.{passes_at, passed, walk_end, walk_stop, walk_go, walk_none}
use borrow.Author.Rules.{rules}
use Rattle.live_windows.proofs.pass_from.Goals as goal

pub loop-left-init : goal.loop-left-init
loop-left-init c = (search rules, (search rules, refl))

pub returns-then-at-eq0 : goal.returns-then-at-eq0
returns-then-at-eq0 c =
    let l = c.loop-left in
    let a = c.args in
    passed a.tiny a.b0 a.reals.now a.made (links a.edges.now a.words.now) a.e.0 a.from l.before l.invariant.0
    (sym (walk_end (passes_at a.b0 (a.b0 ⊖ a.tiny) a.reals.now) a.made (links a.edges.now a.words.now) a.e.0 l.left l.before c.next_link-at.result c.next_link-at.ensures.is c.if-at-eq0.true) ∙ l.invariant.1.1)

pub loop-left-preserved : goal.loop-left-preserved
loop-left-preserved c =
    let l = c.loop-left in
    let a = c.args in (
      c.next_link-at.ensures.made,
      (
        search rules,
        sym (walk_go (passes_at a.b0 (a.b0 ⊖ a.tiny) a.reals.now) a.made (links a.edges.now a.words.now) a.e.0 l.left l.before c.next_link-at.result c.next_link-at.ensures.is c.loop-left-test.true c.if-at-eq0.false (sym c.passes_by-go.ensures ∙ c.if-go.true)) ∙ l.invariant.1.1,
      ),
    )

pub returns-else-go : goal.returns-else-go
returns-else-go c =
    let l = c.loop-left in
    let a = c.args in
    passed a.tiny a.b0 a.reals.now a.made (links a.edges.now a.words.now) a.e.0 a.from l.before l.invariant.0
    (sym (walk_stop (passes_at a.b0 (a.b0 ⊖ a.tiny) a.reals.now) a.made (links a.edges.now a.words.now) a.e.0 l.left l.before c.next_link-at.result c.next_link-at.ensures.is c.if-at-eq0.false (sym c.passes_by-go.ensures ∙ c.if-go.false)) ∙ l.invariant.1.1)

pub returns : goal.returns
returns c =
    let l = c.loop-left in
    let a = c.args in
    passed a.tiny a.b0 a.reals.now a.made (links a.edges.now a.words.now) a.e.0 a.from l.before l.invariant.0 (sym (walk_none (passes_at a.b0 (a.b0 ⊖ a.tiny) a.reals.now) a.made (links a.edges.now a.words.now) a.e.0 l.left l.before (omega arith)) ∙ l.invariant.1.1)
