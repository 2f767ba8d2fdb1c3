use mathlib.Core.Path.{◌∙◌}
use Rattle.layout.specs.Layout.{reals_per_edge, edge_unit}
use Rattle.frames.proofs.Turns.{vector_at_lem}
use Rattle.mesh_readers.proofs.unit.Goals as goal

pub returns : goal.returns
returns c = c.vector_from.ensures ∙ vector_at_lem reals_per_edge c.args.edge_reals.now c.args.e.0 edge_unit
