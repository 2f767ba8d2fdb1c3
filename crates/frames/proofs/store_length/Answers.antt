use mathlib.Core.Path.{ap, ◌∙◌}
use Rattle.layout.specs.Layout.{reals_per_edge}
use Rattle.buffers.specs.Slots.{fill}
use Rattle.frames.proofs.Turns.{length_row_lem}
use Rattle.frames.proofs.store_length.Goals as goal

pub returns : goal.returns
returns c = c.store_four.ensures ∙ ap (fill reals_per_edge c.args.edge_reals.now c.args.e 0) (length_row_lem _ _ c.args.e _ _ _ c.edge_vector-d.ensures c.norm-len.ensures c.scale.ensures)
