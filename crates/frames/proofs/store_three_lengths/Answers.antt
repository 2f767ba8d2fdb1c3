use Prim.Native.Nat.{◌+◌}
use native.Mathlib.Omega.{arith}
use Rattle.layout.specs.Layout.{reals_per_edge}
use Rattle.frames.proofs.Rows.{three_stored}
use Rattle.frames.proofs.Turns.{length_row_lem}
use Rattle.frames.proofs.store_three_lengths.Goals as goal

pub overflow_add-e-3 : goal.overflow_add-e-3
overflow_add-e-3 c = omega (arith, c.requires.1)

pub store_four-requires-2 : goal.store_four-requires-2
store_four-requires-2 c = omega (arith, c.requires.0, c.store_four.auto.reals)

pub overflow_add-e-4 : goal.overflow_add-e-4
overflow_add-e-4 c = omega (arith, c.requires.1)

pub store_four-requires-3 : goal.store_four-requires-3
store_four-requires-3 c = omega (arith, c.requires.0, c.store_four.auto.reals, c.store_four-2.auto.reals)

pub returns : goal.returns
returns c =
    let e = c.args.e in
    three_stored reals_per_edge e _ _ _ _ _ _ _ _ _ _ c.store_four.ensures c.store_four-2.ensures c.store_four-3.ensures
    (length_row_lem _ _ e _ _ _ c.edge_vector-d.ensures c.norms-len.ensures.0 c.scale.ensures)
    (length_row_lem _ _ (e + 1) _ _ _ c.edge_vector-d1.ensures c.norms-len.ensures.1.0 c.scale-2.ensures)
    (length_row_lem _ _ (e + 2) _ _ _ c.edge_vector-d2.ensures c.norms-len.ensures.1.1 c.scale-3.ensures)
