-- `edge_table::clear_links` meets its contract. The loop's invariant: the links of the edges so far are zero. Assumes nothing.
use mathlib.Core.Path.{refl, ◌∙◌}
use Rattle.edge_table.proofs.Unlinking.{unlinked_none, unlinked_more, unlinked_all}
use Rattle.edge_table.proofs.clear_links.Goals as goal

pub loop-e-init : goal.loop-e-init
loop-e-init c = (refl, unlinked_none _)

pub loop-e-preserved : goal.loop-e-preserved
loop-e-preserved c =
    let l = c.loop-e in
    (c.write_u32.auto.s ∙ l.invariant.0, unlinked_more _ l.e _ _ l.invariant.1 c.write_u32.ensures)

pub returns : goal.returns
returns c = unlinked_all _ _ c.loop-e.e _ c.loop-e.invariant.1 c.loop-e.auto.e-end c.loop-e-test.false
