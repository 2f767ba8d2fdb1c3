-- `job_checks::degenerate_edge` meets its contract. Assumes nothing.
use mathlib.Core.Path.{◌≡◌, sym, ap, ◌∙◌}
use Rattle.vec3.specs.Vec.{sub_of}
use Rattle.job_checks.specs.Edge.{vertex_at, lower, higher}
use Rattle.job_checks.specs.Refusals.{degenerate, degenerate_edge}
use Rattle.job_checks.proofs.degenerate_edge.Goals as goal

pub returns : goal.returns
unfolding degenerate_edge
returns c =
    let o : _ ≡ vertex_at c.args.v.now (lower c.args.a c.args.b) = c.vertex.ensures ∙ ap (vertex_at c.args.v.now) c.lower_of-o.ensures in
    c.degenerate.ensures (vertex_at c.args.v.now (higher c.args.a c.args.b)) (c.requires.0 ∙ ap (sub_of (vertex_at c.args.v.now (higher c.args.a c.args.b))) (sym o)) c.requires.1
    ∙ (λ i. degenerate (o i) (vertex_at c.args.v.now (higher c.args.a c.args.b)) (c.vertex-2.ensures i))
