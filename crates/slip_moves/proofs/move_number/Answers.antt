-- `slip_moves::move_number` meets its contract. Assumes nothing.
use Rattle.slip_moves.proofs.Parts.{moves_put, moves_stop, behind_as}
use Rattle.slip_moves.proofs.Ways.{number_refused, number_is}
use mathlib.Core.Path.{refl}
use Rattle.std.proofs.lemmas.Result.{err_from_is_err_and}
use Rattle.slip_moves.proofs.move_number.Goals as goal

pub returns-in_err-n : goal.returns-in_err-n
returns-in_err-n c =
    let p = err_from_is_err_and c.from_residual.result c.from_residual.ensures.1 in
    rw (p.1, p.2) (moves_stop (number_refused _ _ _ _ c.read_number.ensures _ c.in_err-n.was) refl)

pub returns : goal.returns
returns c =
    let put = c.put_number-p.ensures.0 in
    moves_put (number_is _ _ _ _ c.read_number.ensures c.in_ok-n.was) (behind_as c.in_ok-n.next put.ends) put.holds
