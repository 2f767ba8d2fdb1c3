-- `slip_moves::move_rest` meets its contract. Assumes nothing.
use Rattle.slip_moves.specs.Moves.{then, bytes_moved, pieces_moved, rest_moved}
use Rattle.slip_moves.proofs.Parts.{far_none, far_stop, far_step, far_last}
use Rattle.slip_moves.proofs.Reach.{reach_pieces, stepped}
use Prim.Native.Nat.{◌*◌}
use native.Mathlib.Omega.{arith}
use Rattle.std.proofs.lemmas.Result.{err_from_is_err_and}
use Rattle.slip_moves.proofs.move_rest.Goals as goal

pub move_bytes-requires : goal.move_bytes-requires
move_bytes-requires c =
    let a = c.args in
    let near = stepped a.i (54 * a.pieces) (pieces_moved a.from a.to a.s.now a.pieces a.i) (reach_pieces a.from a.to a.s.now a.pieces a.i) c.move_pieces.ensures c.in_ok-j.was in
    (omega (arith, near.0, c.requires), (omega (arith, near.1, c.requires), omega arith))

pub returns-in_err-j : goal.returns-in_err-j
unfolding rest_moved
returns-in_err-j c =
    let a = c.args in
    let x = pieces_moved a.from a.to a.s.now a.pieces a.i in
    let p = err_from_is_err_and c.from_residual.result c.from_residual.ensures.1 in
    rw (p.1, p.2)
    (far_stop x (bytes_moved a.s.now 8) (far_none (then x (bytes_moved a.s.now 8))) c.move_pieces.ensures c.in_err-j.was)

pub returns : goal.returns
unfolding rest_moved
returns c =
    let a = c.args in
    let x = pieces_moved a.from a.to a.s.now a.pieces a.i in
    far_last (bytes_moved a.s.now 8 c.in_ok-j.j)
    (far_step x (bytes_moved a.s.now 8) (far_none (then x (bytes_moved a.s.now 8))) c.move_pieces.ensures c.in_ok-j.was) c.move_bytes.ensures
