-- `form_read::check` meets its contract. Assumes nothing.
use Rattle.std.specs.Prelude.{Err}
use Rattle.std.proofs.lemmas.Result.{err_from_is_err_and}
use Rattle.form_read.proofs.Checks.{refused_counts, too_many, walk_refused, walk_done, moved_refused, moved_length, moved_no_room, slip_walked}
use Rattle.groups.specs.declared.Form.TheVariants.{Plain, Groups}
use Rattle.slip_moves.specs.Moves.{slip_moved, moving}
use mathlib.Core.Path.{sym, ap, ◌∙◌}
use Rattle.form_read.proofs.check.Goals as goal

pub returns-in_err-head : goal.returns-in_err-head
returns-in_err-head c =
    let a = c.args in
    let p = err_from_is_err_and c.from_residual.result c.from_residual.ensures.1 in
    rw (p.1, p.2) (refused_counts a.s.now a.vertices a.triangles a.pieces (sym c.read_head.ensures.0 ∙ c.in_err-head.was))

pub returns-then-is_exceeded : goal.returns-then-is_exceeded
returns-then-is_exceeded c = let a = c.args in too_many a.s.now a.vertices a.triangles a.pieces (sym c.read_head.ensures.0 ∙ c.in_ok-head.was) (sym c.is_exceeded.ensures ∙ c.if-is_exceeded.true)

pub job-requires : goal.job-requires
unfolding moving
job-requires c =
    let s = c.args.s.now in
    let small = c.read_head.ensures.1.small _ c.in_ok-head.was in
    ((slip_walked s (sym c.read_head.ensures.0 ∙ c.in_ok-head.was) (moved_length _ (slip_moved Groups Plain s) c.move_slip.ensures c.in-Ok.is)).long, (small.0, (small.1.0, small.1.1.0)))

pub job-requires-in-Err-NoRoom : goal.job-requires-in-Err-NoRoom
unfolding moving
job-requires-in-Err-NoRoom c =
    let s = c.args.s.now in
    let small = c.read_head.ensures.1.small _ c.in_ok-head.was in
    let is = c.in-Err-NoRoom.is ∙ ap Err c.in-Err-NoRoom.field-0-is in
    ((slip_walked s (sym c.read_head.ensures.0 ∙ c.in_ok-head.was) (moved_no_room _ (slip_moved Groups Plain s) c.move_slip.ensures is)).long, (small.0, (small.1.0, small.1.1.0)))

pub returns-in-Ok : goal.returns-in-Ok
unfolding moving
returns-in-Ok c =
    let a = c.args in
    c.job.ensures
    ∙ walk_done a.s.now a.vertices a.triangles a.pieces (sym c.read_head.ensures.0 ∙ c.in_ok-head.was) (sym c.is_exceeded.ensures ∙ c.if-is_exceeded.false) (moved_length _ (slip_moved Groups Plain a.s.now) c.move_slip.ensures c.in-Ok.is)

pub returns-in-Err-NoRoom : goal.returns-in-Err-NoRoom
unfolding moving
returns-in-Err-NoRoom c =
    let a = c.args in
    let is = c.in-Err-NoRoom.is ∙ ap Err c.in-Err-NoRoom.field-0-is in
    c.job-in-Err-NoRoom.ensures
    ∙ walk_done a.s.now a.vertices a.triangles a.pieces (sym c.read_head.ensures.0 ∙ c.in_ok-head.was) (sym c.is_exceeded.ensures ∙ c.if-is_exceeded.false) (moved_no_room _ (slip_moved Groups Plain a.s.now) c.move_slip.ensures is)

pub returns-in-Err-Slip : goal.returns-in-Err-Slip
unfolding moving
returns-in-Err-Slip c =
    let a = c.args in
    let is = c.in-Err-Slip.is ∙ ap Err c.in-Err-Slip.field-0-is in
    walk_refused a.s.now a.vertices a.triangles a.pieces (sym c.read_head.ensures.0 ∙ c.in_ok-head.was) (sym c.is_exceeded.ensures ∙ c.if-is_exceeded.false) (moved_refused _ (slip_moved Groups Plain a.s.now) c.move_slip.ensures is)
