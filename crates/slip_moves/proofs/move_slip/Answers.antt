-- `slip_moves::move_slip` meets its contract. Assumes nothing.
use Rattle.std.proofs.lemmas.Result.{err_from_is_err_and}
use Rattle.slip_moves.specs.Moves.{slip_moved, moving}
use Rattle.slip_moves.proofs.Whole.{refused, no_room, done, no_second_refusal}
use Rattle.slip_moves.proofs.move_slip.Goals as goal

pub returns-in_err-n : goal.returns-in_err-n
unfolding moving
returns-in_err-n c =
    let a = c.args in
    let p = err_from_is_err_and c.from_residual.result c.from_residual.ensures.1 in
    rw (p.1, p.2) (refused a.out.now (slip_moved a.from a.to a.s.now) c.move_whole.ensures c.in_err-n.was)

pub returns-then-out-n : goal.returns-then-out-n
unfolding moving
returns-then-out-n c = let a = c.args in no_room a.out.now (slip_moved a.from a.to a.s.now) c.move_whole.ensures c.in_ok-n.was c.if-out-n.true

pub returns-in_err-move_whole : goal.returns-in_err-move_whole
returns-in_err-move_whole c =
    let a = c.args in
    no_second_refusal a.out.now (slip_moved a.from a.to a.s.now) c.move_whole.ensures c.in_ok-n.was c.move_whole-2.ensures c.in_err-move_whole.was

pub returns : goal.returns
unfolding moving
returns c = let a = c.args in done a.out.now (slip_moved a.from a.to a.s.now) c.move_whole.ensures c.in_ok-n.was c.if-out-n.false c.move_whole-2.ensures
