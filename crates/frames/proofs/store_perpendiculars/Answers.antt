use Prim.Native.Nat.{◌+◌, ◌*◌}
use mathlib.Core.Path.{refl}
use native.Mathlib.Omega.{arith}
use Rattle.layout.specs.Layout.{reals_per_normal}
use Rattle.frames.proofs.Rows.{three_stored}
use Rattle.frames.proofs.Turns.{perpendicular_row_lem}
use Rattle.frames.proofs.store_perpendiculars.Goals as goal

pub overflow_mul-f : goal.overflow_mul-f
overflow_mul-f c = omega (arith, c.requires.1)

pub store_three-requires : goal.store_three-requires
store_three-requires c = omega (arith, c.requires.0)

pub overflow_mul-f-2 : goal.overflow_mul-f-2
overflow_mul-f-2 c = omega (arith, c.requires.1)

pub overflow_add-f : goal.overflow_add-f
overflow_add-f c = omega (arith, c.requires.1)

pub store_three-requires-2 : goal.store_three-requires-2
store_three-requires-2 c = omega (arith, c.requires.0, c.store_three.auto.reals)

pub overflow_mul-f-3 : goal.overflow_mul-f-3
overflow_mul-f-3 c = omega (arith, c.requires.1)

pub overflow_add-f-2 : goal.overflow_add-f-2
overflow_add-f-2 c = omega (arith, c.requires.1)

pub store_three-requires-3 : goal.store_three-requires-3
store_three-requires-3 c = omega (arith, c.requires.0, c.store_three.auto.reals, c.store_three-2.auto.reals)

pub returns : goal.returns
returns c =
    let f = c.args.f in
    let a = c.read_u32-a.ensures in
    let b = c.read_u32-b.ensures in
    let c' = c.read_u32-c.ensures in
    three_stored reals_per_normal (3 * f) _ _ _ _ _ _ _ _ _ _ c.store_three.ensures c.store_three-2.ensures c.store_three-3.ensures
    (perpendicular_row_lem _ _ _ _ f 0 (omega arith) (3 * f) _ _ _ _ _ (omega arith) c.read_u32-e.ensures a b c' c.perpendicular-p.ensures)
    (perpendicular_row_lem _ _ _ _ f 1 (omega arith) (3 * f + 1) _ _ _ _ _ refl c.read_u32-e1.ensures b c' a c.perpendicular-p1.ensures)
    (perpendicular_row_lem _ _ _ _ f 2 (omega arith) (3 * f + 2) _ _ _ _ _ refl c.read_u32-e2.ensures c' a b c.perpendicular-p2.ensures)
