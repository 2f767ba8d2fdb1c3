use mathlib.Core.Path.{◌∙◌}
use Rattle.chains.specs.Chains.{links}
use Rattle.chains.proofs.Turns.{with_head, with_next_lem}
use Rattle.chains.proofs.set_link.Goals as goal

pub returns-then-before-eq0 : goal.returns-then-before-eq0
returns-then-before-eq0 c =
    let a = c.args in
    (λ t. links (c.write_u32.ensures t) a.words.now)
    ∙ with_head (links a.edges.now a.words.now) a.e.0 a.before a.link c.if-before-eq0.true

pub returns : goal.returns
returns c =
    let a = c.args in
    (λ t. links a.edges.now (c.write_u32-2.ensures t))
    ∙ with_next_lem (links a.edges.now a.words.now) a.e.0 a.before a.link c.if-before-eq0.false
