-- `field_c::has_slots` meets its contract. Assumes nothing.
use native.Mathlib.Omega.{arith}
use Rattle.field_c.proofs.Asking.{none_lacks, windows_lack, edges_lack}
use Rattle.field_c.proofs.has_slots.Goals as goal

pub returns-then-n-count : goal.returns-then-n-count
returns-then-n-count c =
    none_lacks _ _ _ _ c.slots.ensures c.count.ensures c.if-n-slots.true c.if-n-count.true

pub returns-then-n-slots : goal.returns-then-n-slots
returns-then-n-slots c =
    windows_lack _ _ _ _ c.slots.ensures c.count.ensures c.if-n-slots.true (omega (arith, c.if-n-count.false))

pub returns : goal.returns
returns c = edges_lack _ _ _ _ c.slots.ensures (omega (arith, c.if-n-slots.false))
