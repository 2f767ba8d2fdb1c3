-- `insert_c::tell` meets its contract. Assumes nothing.
use mathlib.Core.Path.{◌∙◌}
use Rattle.std.specs.declared.result.Result.TheVariants.{Err}
use Rattle.insert_c.proofs.Told.{told_wedge, told_stopped, told_went}
use Rattle.insert_c.proofs.tell.Goals as goal

pub returns-in-Err-Wedge : goal.returns-in-Err-Wedge
returns-in-Err-Wedge c =
    let e = rw c.in-Err-Wedge.is at c.in-Err-Wedge.field-0-is in
    told_wedge c.args.edges _ (c.in-Err-Wedge.is ∙ (λ i. Err (e i)))

pub returns-in-Err-NoSlot : goal.returns-in-Err-NoSlot
returns-in-Err-NoSlot c =
    let e = rw c.in-Err-NoSlot.is at c.in-Err-NoSlot.field-0-is in
    told_stopped c.args.edges _ c.in-Err-NoSlot.lack _ (c.in-Err-NoSlot.is ∙ (λ i. Err (e i))) c.lack_number.ensures

pub returns-in-Ok : goal.returns-in-Ok
returns-in-Ok c =
    told_went c.args.edges _ _ _ _ _ _ c.in-Ok.is c.write_u32.ensures c.write_u32-in-Ok.ensures c.write_u32-in-Ok-2.ensures c.write_u32-in-Ok-3.ensures
