use mathlib.Core.Path.{refl, sym, ap, ◌∙◌}
use native.Mathlib.Omega.{arith}
use Prim.Native.Nat.{◌-◌}
use Rattle.windows.specs.Windows.{link_of}
use Rattle.field_check.specs.Chains.{walk_of}
use Rattle.field_check.specs.FieldCheck.{window_unsound}
use Rattle.field_check.proofs.Walks.{walk_end, walk_over, walk_bad, walk_on_lem}
use Rattle.field_check.proofs.walk_windows.Goals as goal

pub loop-at-init : goal.loop-at-init
loop-at-init c = refl

pub returns-then-left-eq0 : goal.returns-then-left-eq0
returns-then-left-eq0 c =
    let l = c.loop-at in
    let a = c.args in
    sym (walk_over (link_of a.words.now) (window_unsound a.reals.now) l.left l.before l.at c.if-left-eq0.true c.loop-at-test.true) ∙ l.invariant

pub returns-then-window_unsound : goal.returns-then-window_unsound
returns-then-window_unsound c =
    let l = c.loop-at in
    let a = c.args in
    sym (walk_bad (link_of a.words.now) (window_unsound a.reals.now) l.left l.before l.at c.loop-at-test.true (sym c.window_unsound.ensures ∙ c.if-window_unsound.true)) ∙ l.invariant

pub loop-at-preserved : goal.loop-at-preserved
loop-at-preserved c =
    let l = c.loop-at in
    let a = c.args in
    ap (walk_of (link_of a.words.now) (window_unsound a.reals.now) (l.left - 1) l.at) c.read_u32-at.ensures
    ∙ walk_on_lem (link_of a.words.now) (window_unsound a.reals.now) l.left l.before l.at c.if-left-eq0.false c.loop-at-test.true (sym c.window_unsound.ensures ∙ c.if-window_unsound.false)
    ∙ l.invariant

pub returns : goal.returns
returns c =
    let l = c.loop-at in
    let a = c.args in
    sym (walk_end (link_of a.words.now) (window_unsound a.reals.now) l.left l.before l.at (omega (arith, c.loop-at-test.false))) ∙ l.invariant
