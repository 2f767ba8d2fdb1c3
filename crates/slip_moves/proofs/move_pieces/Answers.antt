-- `slip_moves::move_pieces` meets its contract. Assumes nothing.
use Rattle.slip_moves.specs.Moves.{piece_moved, pieces_moved}
use Rattle.slip_moves.proofs.Parts.{far_none, far_is, far_stop, far_step, far_end}
use Rattle.slip_moves.proofs.Reach.{reach_piece, stepped}
use Rattle.slip_moves.proofs.Ways.{pieces_next, no_pieces}
use Prim.Native.Nat.{◌+◌, ◌-◌}
use mathlib.Core.Path.{◌≡◌, refl, ◌∙◌}
use native.Mathlib.Omega.{arith}
use Rattle.std.proofs.lemmas.Result.{err_from_is_err_and}
use Rattle.slip_moves.proofs.move_pieces.Goals as goal

pub loop-init : goal.loop-init
loop-init c =
    let all : c.args.n - 0 ≡ c.args.n = omega arith in
    (omega arith, omega arith, refl, rw all (far_none _))

pub returns-in_err-at : goal.returns-in_err-at
returns-in_err-at c =
    let a = c.args in
    let left = a.n - c.loop.counter in
    let p = err_from_is_err_and c.from_residual.result c.from_residual.ensures.1 in
    rw (p.1, p.2)
    (far_stop (piece_moved a.from a.to a.s.now c.loop.at) (pieces_moved a.from a.to a.s.now (left - 1))
    (far_is (pieces_next a.from a.to a.s.now c.loop.at left (omega arith)) c.loop.invariant.3) c.move_piece.ensures c.in_err-at.was)

pub loop-preserved : goal.loop-preserved
loop-preserved c =
    let a = c.args in
    let left = a.n - c.loop.counter in
    let x = piece_moved a.from a.to a.s.now c.loop.at in
    let near = stepped c.loop.at 54 x (reach_piece a.from a.to a.s.now c.loop.at) c.move_piece.ensures c.in_ok-at.was in
    let less : a.n - (c.loop.counter + 1) ≡ left - 1 = omega arith in (
      omega (arith, near.0, c.loop.invariant.0, c.loop-test.true),
      omega (arith, near.1, c.loop.invariant.1, c.loop-test.true),
      c.move_piece.auto.out ∙ c.loop.invariant.2,
      rw less
          (far_step x (pieces_moved a.from a.to a.s.now (left - 1))
          (far_is (pieces_next a.from a.to a.s.now c.loop.at left (omega arith)) c.loop.invariant.3) c.move_piece.ensures c.in_ok-at.was),
    )

pub returns : goal.returns
returns c =
    let a = c.args in
    far_end (far_is (no_pieces a.from a.to a.s.now c.loop.at (a.n - c.loop.counter) (omega arith)) c.loop.invariant.3)
