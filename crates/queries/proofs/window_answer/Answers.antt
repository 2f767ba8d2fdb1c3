use mathlib.Core.Path.{ap, ◌∙◌}
use borrow.Author.Tests.{le-leb, lt-leb}
use Rattle.queries.specs.Queries.{linked_window, window_answer}
use native.Mathlib.Omega.{arith}
use Rattle.queries.proofs.Checked.{taken, left}
use Rattle.queries.proofs.window_answer.Goals as goal

pub place_link-link-requires : goal.place_link-link-requires
place_link-link-requires c =
    (c.requires.1, omega (arith, c.requires.0, c.if-n-e.false))

pub linked_window-requires : goal.linked_window-requires
linked_window-requires c = omega (arith, c.place_link-link.ensures.upper_bound, c.requires.1)

pub returns-then-n-e : goal.returns-then-n-e
unfolding window_answer
returns-then-n-e c = taken _ _ _ (le-leb _ _ c.if-n-e.true)

pub returns : goal.returns
unfolding window_answer
returns c =
    let a = c.args in
    left _ _ _ _ (lt-leb _ _ c.if-n-e.false) (c.linked_window.ensures ∙ ap (linked_window a.words.now a.reals.now) c.place_link-link.ensures.value)
