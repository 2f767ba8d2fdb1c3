-- `moves_c::tell_read` meets its contract. Assumes nothing.
use Rattle.moves_c.specs.Exports.{read_told}
use lib.ListN.{set}
use mathlib.Core.Path.{ap, ◌∙◌}
use Rattle.moves_c.proofs.tell_read.Goals as goal

pub returns-in-Err : goal.returns-in-Err
unfolding read_told
returns-in-Err c = rw c.in-Err.is (λ i. (c.refusal_number.ensures i, (c.args.told.now, c.args.limit.now)))

pub shape_of-told : goal.shape_of-told
shape_of-told c =
    c.write_u32-in-Ok-2.auto.s ∙ c.write_u32-in-Ok.auto.s ∙ c.write_u32.auto.s

pub shape_of-limit : goal.shape_of-limit
shape_of-limit c = c.write_f64.auto.s

pub returns-in-Ok : goal.returns-in-Ok
unfolding read_told
returns-in-Ok c =
    let j = c.in-Ok.job in
    let told = c.write_u32-in-Ok-2.ensures ∙ ap (λ l. set l 2 j.pieces) (c.write_u32-in-Ok.ensures ∙ ap (λ l. set l 1 j.triangles) c.write_u32.ensures) in
    rw c.in-Ok.is (λ i. (0, (told i, c.write_f64.ensures i)))
