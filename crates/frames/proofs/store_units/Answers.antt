use Prim.Native.Nat.{◌+◌, ◌*◌}
use native.Mathlib.Omega.{arith}
use Rattle.layout.specs.Layout.{reals_per_normal}
use Rattle.frames.proofs.Rows.{three_stored}
use Rattle.frames.proofs.Turns.{unit_row}
use Rattle.frames.proofs.store_units.Goals as goal

pub overflow_mul-f-5 : goal.overflow_mul-f-5
overflow_mul-f-5 c = omega (arith, c.requires.1)

pub overflow_add-f-3 : goal.overflow_add-f-3
overflow_add-f-3 c = omega (arith, c.requires.1)

pub store_three-requires-2 : goal.store_three-requires-2
store_three-requires-2 c = omega (arith, c.requires.0, c.store_three.auto.reals)

pub overflow_mul-f-6 : goal.overflow_mul-f-6
overflow_mul-f-6 c = omega (arith, c.requires.1)

pub overflow_add-f-4 : goal.overflow_add-f-4
overflow_add-f-4 c = omega (arith, c.requires.1)

pub store_three-requires-3 : goal.store_three-requires-3
store_three-requires-3 c = omega (arith, c.requires.0, c.store_three.auto.reals, c.store_three-2.auto.reals)

pub returns : goal.returns
returns c =
    let f = c.args.f in
    let r = c.args.reals.now in
    three_stored reals_per_normal (3 * f) _ _ _ _ _ _ _ _ _ _ c.store_three.ensures c.store_three-2.ensures c.store_three-3.ensures
    (unit_row r (3 * f) _ _ _ c.vector-p.ensures c.norms-altitude.ensures.0 c.scale.ensures)
    (unit_row r (3 * f + 1) _ _ _ c.vector-p1.ensures c.norms-altitude.ensures.1.0 c.scale-2.ensures)
    (unit_row r (3 * f + 2) _ _ _ c.vector-p2.ensures c.norms-altitude.ensures.1.1 c.scale-3.ensures)
