use mathlib.Core.Path.{ap, ◌∙◌}
use Rattle.chains.specs.Chains.{links, link_in}
use Rattle.chains.proofs.Turns.{link_head, link_next}
use Rattle.chains.proofs.link_at.Goals as goal

pub returns-then-before-eq0 : goal.returns-then-before-eq0
returns-then-before-eq0 c =
    let a = c.args in
    c.within.ensures ∙ ap (link_in a.count) (c.read_u32-head.ensures ∙ link_head (links a.edges.now a.words.now) a.e.0 a.before c.if-before-eq0.true)

pub returns : goal.returns
returns c =
    let a = c.args in
    c.within-2.ensures ∙ ap (link_in a.count) (c.read_u32-next.ensures ∙ link_next (links a.edges.now a.words.now) a.e.0 a.before c.if-before-eq0.false)
