-- `trim_c::tell` meets its contract. Assumes nothing.
use Rattle.trim_c.proofs.Told.{told_done, told_ended}
use Rattle.trim_c.proofs.tell.Goals as goal

pub returns-in-Ok : goal.returns-in-Ok
returns-in-Ok c = told_done _ _ _ c.in-Ok.is c.write_u32.ensures c.write_u32-in-Ok.ensures

pub returns-in-Err : goal.returns-in-Err
returns-in-Err c = told_ended _ _ _ c.in-Err.is c.refusal_number.ensures c.write_u32-in-Err.ensures c.write_u32-in-Err-2.ensures
