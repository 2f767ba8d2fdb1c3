use Prim.Native.Nat.{◌+◌, ◌*◌}
use mathlib.Core.Path.{refl, ◌∙◌}
use native.Mathlib.Omega.{arith}
use Rattle.layout.specs.Layout.{reals_per_normal}
use Rattle.frames.proofs.Rows.{rows_start, rows_turn_three, rows_done}
use Rattle.frames.proofs.Turns.{unit_past}
use Rattle.frames.proofs.units.Goals as goal

pub loop-f-init : goal.loop-f-init
loop-f-init c = (refl, rows_start reals_per_normal _ _)

pub store_units-requires : goal.store_units-requires
store_units-requires c = (omega (arith, c.requires.0, c.loop-f.invariant.0, c.loop-f-test.true), omega (arith, c.requires.1, c.loop-f-test.true))

pub loop-f-preserved : goal.loop-f-preserved
loop-f-preserved c =
    let store-units = c.store_units in
    let l = c.loop-f in (
      store-units.auto.reals ∙ l.invariant.0,
      rows_turn_three reals_per_normal _ _ _ _ _ _ _ (3 * l.f) (3 * (l.f + 1)) (omega arith) store-units.ensures
          (unit_past c.args.reals.now _ (3 * l.f) (3 * l.f) (omega arith) l.invariant.1) (unit_past c.args.reals.now _ (3 * l.f) (3 * l.f + 1) (omega arith) l.invariant.1)
          (unit_past c.args.reals.now _ (3 * l.f) (3 * l.f + 2) (omega arith) l.invariant.1) l.invariant.1,
    )

pub returns : goal.returns
returns c = let l = c.loop-f in rows_done reals_per_normal _ _ _ (3 * l.f) _ l.invariant.1 (omega (arith, l.auto.f-end)) (omega (arith, c.loop-f-test.false))
