-- `piece_ends::directions` meets its contract. The invariant: the directions of the pieces so far are written. Assumes nothing.
use Prim.Native.Nat.{◌-◌}
use mathlib.Core.Path.{refl, ◌∙◌}
use native.Mathlib.Omega.{arith}
use borrow.Author.Rules.{rules}
use Rattle.layout.specs.Layout.{reals_per_piece}
use Rattle.frames.proofs.Rows.{rows_start, rows_turn, rows_done}
use Rattle.piece_ends.proofs.Unit.{directions_made}
use Rattle.piece_ends.proofs.directions.Goals as goal

pub loop-i-init : goal.loop-i-init
loop-i-init c = (omega arith, (refl, rows_start reals_per_piece _ _))

pub loop-i-preserved : goal.loop-i-preserved
loop-i-preserved c =
    (search rules, (c.store_direction.auto.reals ∙ c.loop-i.invariant.1.0, rows_turn reals_per_piece _ _ _ _ _ c.loop-i.i _ refl c.store_direction.ensures refl c.loop-i.invariant.1.1))

pub returns : goal.returns
returns c =
    let a = c.args in
    directions_made a.kinds.now a.coords.now _ _ _ (rows_done reals_per_piece _ _ _ c.loop-i.i _ c.loop-i.invariant.1.1 c.loop-i.invariant.0 c.loop-i-test.false) c.zero_f64_from.ensures
