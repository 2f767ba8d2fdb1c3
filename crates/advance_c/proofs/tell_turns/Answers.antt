-- `advance_c::tell_turns` meets its contract. Assumes nothing.
use mathlib.Core.Path.{◌∙◌}
use Rattle.advance_c.proofs.Turning.{told_stopped, told_went}
use Rattle.advance_c.proofs.tell_turns.Goals as goal

pub returns-in-Err : goal.returns-in-Err
returns-in-Err c = told_stopped _ _ c.in-Err.is c.lack_number.ensures

pub shape_of-told : goal.shape_of-told
shape_of-told c =
    c.write_u32-in-Ok-2.auto.s ∙ c.write_u32-in-Ok.auto.s ∙ c.write_u32.auto.s

pub returns-in-Ok : goal.returns-in-Ok
returns-in-Ok c =
    told_went _ _ c.in-Ok.is c.write_u32.ensures c.write_u32-in-Ok.ensures c.write_u32-in-Ok-2.ensures
