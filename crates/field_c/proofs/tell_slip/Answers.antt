-- `field_c::tell_slip` meets its contract. Assumes nothing.
use Rattle.field_c.proofs.Slipped.{told_refusal, told_job}
use Rattle.field_c.proofs.tell_slip.Goals as goal

pub returns-in-Err : goal.returns-in-Err
returns-in-Err c = told_refusal _ _ _ c.in-Err.is c.refusal_number.ensures

pub returns-in-Ok : goal.returns-in-Ok
returns-in-Ok c =
    told_job _ _ _ c.in-Ok.is c.write_u32.ensures c.write_u32-in-Ok.ensures c.write_u32-in-Ok-2.ensures c.write_f64.ensures
