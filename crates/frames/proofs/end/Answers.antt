use mathlib.Core.Path.{ap, ◌∙◌}
use Rattle.job_checks.specs.Edge.{vertex_at}
use Rattle.frames.proofs.end.Goals as goal

pub returns : goal.returns
returns c = c.vertex.ensures ∙ ap (vertex_at c.args.vertices.now) c.read_u32.ensures
