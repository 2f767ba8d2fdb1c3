-- `field_c::tell` meets its contract. Assumes nothing.
use Rattle.field_c.proofs.Told.{told_refused, told_field_lem}
use Rattle.field_c.proofs.tell.Goals as goal

pub returns-in-Refused : goal.returns-in-Refused
returns-in-Refused c = told_refused _ _ c.in-Refused.is

pub returns-in-Field : goal.returns-in-Field
returns-in-Field c =
    told_field_lem _ _ c.in-Field.is
    c.write_u32.ensures c.write_u32-in-Field.ensures c.write_u32-in-Field-2.ensures c.write_u32-in-Field-3.ensures c.write_u32-in-Field-4.ensures c.write_u32-in-Field-5.ensures
