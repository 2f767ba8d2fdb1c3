-- `advance_c::finish_fits` meets its contract. Assumes nothing.
use native.Mathlib.Omega.{arith}
use Rattle.advance_c.proofs.Turning.{finish_edges_lack, finish_windows_lack, finish_none_lacks}
use Rattle.advance_c.proofs.finish_fits.Goals as goal

pub returns-then-made-count : goal.returns-then-made-count
returns-then-made-count c =
    finish_none_lacks _ _ _ _ _ c.slots.ensures c.if-edges-slots.true c.count.ensures c.if-made-count.true

pub returns-then-edges-slots : goal.returns-then-edges-slots
returns-then-edges-slots c =
    finish_windows_lack _ _ _ _ _ c.slots.ensures c.if-edges-slots.true c.count.ensures (omega (arith, c.if-made-count.false))

pub returns : goal.returns
returns c = finish_edges_lack _ _ _ _ _ c.slots.ensures (omega (arith, c.if-edges-slots.false))
