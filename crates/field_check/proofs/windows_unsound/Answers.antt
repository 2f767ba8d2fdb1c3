use mathlib.Core.Path.{sym, ap, ◌∙◌}
use Rattle.windows.specs.Windows.{link_of}
use Rattle.chains.specs.Chains.{head_of}
use Rattle.field_check.specs.Chains.{walk_of}
use Rattle.field_check.specs.FieldCheck.{window_unsound, windows_unsound}
use Rattle.field_check.proofs.Walks.{sound_start, sound_on, unsound_there, sound_all}
use Rattle.field_check.proofs.windows_unsound.Goals as goal

pub loop-e-init : goal.loop-e-init
loop-e-init c =
    let a = c.args in
    sound_start (link_of a.words.now) (window_unsound a.reals.now) (head_of a.edge_words.now) a.made

pub returns-in_default : goal.returns-in_default
unfolding windows_unsound
returns-in_default c =
    let l = c.loop-e in
    let a = c.args in
    sym (unsound_there (link_of a.words.now) (window_unsound a.reals.now) (head_of a.edge_words.now) a.made l.left l.e l.invariant c.walk_windows.result (c.walk_windows.ensures ∙ ap (walk_of (link_of a.words.now) (window_unsound a.reals.now) l.left 0) c.read_u32-head.ensures) c.in_default.is a.edges c.loop-e-test.true)

pub loop-e-preserved : goal.loop-e-preserved
loop-e-preserved c =
    let l = c.loop-e in
    let a = c.args in
    sound_on (link_of a.words.now) (window_unsound a.reals.now) (head_of a.edge_words.now) a.made l.left l.e l.invariant c.walk_windows.result (c.walk_windows.ensures ∙ ap (walk_of (link_of a.words.now) (window_unsound a.reals.now) l.left 0) c.read_u32-head.ensures) c.in-Some.rest c.in-Some.is

pub returns : goal.returns
unfolding windows_unsound
returns c =
    let l = c.loop-e in
    let a = c.args in
    sym (sound_all (link_of a.words.now) (window_unsound a.reals.now) (head_of a.edge_words.now) a.made l.left l.e a.edges l.invariant l.auto.e-end c.loop-e-test.false)
