-- `moves_c::tell` meets its contract. Assumes nothing.
use Rattle.std.specs.Prelude.{Err}
use Rattle.moves_c.specs.Exports.{told_length}
use mathlib.Core.Path.{refl, ap, ◌∙◌}
use Rattle.moves_c.proofs.tell.Goals as goal

pub shape_of-told-in-Ok : goal.shape_of-told-in-Ok
shape_of-told-in-Ok c = c.set_first.auto.told

pub returns-in-Ok : goal.returns-in-Ok
unfolding told_length
returns-in-Ok c = rw c.in-Ok.is (refl, c.set_first.ensures)

pub shape_of-told-in-Err-NoRoom : goal.shape_of-told-in-Err-NoRoom
shape_of-told-in-Err-NoRoom c = c.set_first-in-Err-NoRoom.auto.told

pub returns-in-Err-NoRoom : goal.returns-in-Err-NoRoom
unfolding told_length
returns-in-Err-NoRoom c =
    let why = rw c.in-Err-NoRoom.is at c.in-Err-NoRoom.field-0-is in
    rw (c.in-Err-NoRoom.is ∙ ap Err why) (refl, c.set_first-in-Err-NoRoom.ensures)

pub returns-in-Err-Slip : goal.returns-in-Err-Slip
unfolding told_length
returns-in-Err-Slip c =
    let why = rw c.in-Err-Slip.is at c.in-Err-Slip.field-0-is in
    rw (c.in-Err-Slip.is ∙ ap Err why) (c.refusal_number.ensures, refl)
