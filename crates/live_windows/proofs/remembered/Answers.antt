use mathlib.Core.Path.{sym, ap, ◌∙◌}
use Rattle.layout.specs.Layout.{alive_flag}
use Rattle.chains.specs.Chains.{links}
use Rattle.chains.proofs.Turns.{link_le}
use Rattle.trim_model.specs.Add.{passes}
use Rattle.windows.specs.Windows.{has_flag}
use Rattle.live_windows.proofs.Fronts.{from_head_lem, from_hint}
use Rattle.live_windows.proofs.remembered.Goals as goal

pub returns-then-at-eq0 : goal.returns-then-at-eq0
returns-then-at-eq0 c = let a = c.args in from_head_lem (passes a.tiny a.b0) a.made (links a.edges.now a.words.now) a.reals.now a.e.0

pub returns-then-edge-e : goal.returns-then-edge-e
returns-then-edge-e c = let a = c.args in from_head_lem (passes a.tiny a.b0) a.made (links a.edges.now a.words.now) a.reals.now a.e.0

pub returns-then-go : goal.returns-then-go
returns-then-go c =
    let a = c.args in
    from_hint a.tiny a.b0 a.made (links a.edges.now a.words.now) a.reals.now a.e.0 c.within-at.result
    (link_le a.made c.read_u32-link.result c.within-at.result c.within-at.ensures) c.if-at-eq0.false (sym c.read_u32-edge.ensures ∙ c.if-edge-e.false)
    (sym (ap (λ z. has_flag z alive_flag) c.read_u32-flags.ensures) ∙ sym c.has_flag-alive.ensures ∙ c.if-alive.true) (sym c.passes_by-go.ensures ∙ c.if-go.true)

pub returns-else-go : goal.returns-else-go
returns-else-go c = let a = c.args in from_head_lem (passes a.tiny a.b0) a.made (links a.edges.now a.words.now) a.reals.now a.e.0

pub returns-else-alive : goal.returns-else-alive
returns-else-alive c = let a = c.args in from_head_lem (passes a.tiny a.b0) a.made (links a.edges.now a.words.now) a.reals.now a.e.0
