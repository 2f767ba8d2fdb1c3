use mathlib.Core.Path.{ap, ◌∙◌}
use Rattle.float64.specs.Scalar.{min_of}
use Rattle.chains.specs.Chains.{links}
use Rattle.face_query.proofs.Lows.{walk_ends, walk_on_lem, walk_stays}
use Rattle.face_query.proofs.pass_low.Goals as goal

pub returns-in_default : goal.returns-in_default
returns-in_default c =
    let a = c.args in
    λ left p. walk_stays a.made (links a.edge_words.now a.words.now) a.reals.now a.e.0 a.s c.in_default.is left

pub returns-then-at-eq0 : goal.returns-then-at-eq0
returns-then-at-eq0 c =
    let a = c.args in
    λ left p. walk_ends a.made (links a.edge_words.now a.words.now) a.reals.now a.e.0 a.s c.in-Some.before c.in-Some.is c.link_behind-at.result c.link_behind-at.ensures left p c.if-at-eq0.true

pub returns : goal.returns
returns c =
    let a = c.args in
    λ left p. walk_on_lem a.made (links a.edge_words.now a.words.now) a.reals.now a.e.0 a.s c.in-Some.before c.in-Some.is c.link_behind-at.result c.link_behind-at.ensures left p c.if-at-eq0.false
    c.min-low.result (c.min-low.ensures ∙ ap (min_of a.s.low) c.read_f64.ensures)
