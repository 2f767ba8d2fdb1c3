-- `edge_table::add_edge` meets its contract: the six stores make a row. Assumes nothing.
use mathlib.Core.Path.{◌∙◌}
use native.Mathlib.Omega.{arith}
use Rattle.edge_table.proofs.Turns.{stored}
use Rattle.edge_table.proofs.add_edge.Goals as goal

pub overflow_add-e : goal.overflow_add-e
overflow_add-e c = omega (arith, c.requires)

pub shape_of-heads : goal.shape_of-heads
shape_of-heads c = c.write_u32-7.auto.s

pub shape_of-edge_words : goal.shape_of-edge_words
shape_of-edge_words c =
    c.write_u32-6.auto.s ∙ c.write_u32-5.auto.s ∙ c.write_u32-4.auto.s ∙ c.write_u32-3.auto.s ∙ c.write_u32-2.auto.s ∙ c.write_u32.auto.s

pub returns : goal.returns
returns c = (
  c.write_u32-7.ensures,
  stored _ _ _ _ _ _ _ _ _ _ _ _ _ _ c.read_u32-next.ensures c.write_u32.ensures c.write_u32-2.ensures c.write_u32-3.ensures (rw c.no_face-none.ensures at c.write_u32-4.ensures) c.write_u32-5.ensures c.write_u32-6.ensures,
)
