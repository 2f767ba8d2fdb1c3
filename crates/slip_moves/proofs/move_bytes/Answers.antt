-- `slip_moves::move_bytes` meets its contract. Assumes nothing.
use Rattle.slip_moves.proofs.Parts.{moves_put, moves_stop, behind_as}
use Rattle.slip_moves.proofs.Ways.{bytes_short, bytes_there}
use Prim.Native.Nat.{◌+◌, ◌-◌}
use mathlib.Core.Path.{◌≡◌, refl}
use native.Mathlib.Omega.{arith}
use Rattle.slip_moves.proofs.move_bytes.Goals as goal

pub returns-then-s-end : goal.returns-then-s-end
returns-then-s-end c = moves_stop (bytes_short _ _ _ c.if-s-end.true) refl

pub returns : goal.returns
returns c =
    let put = c.put_text-p.ensures in
    let size : c.args.i + c.args.n - c.args.i ≡ c.args.n = omega arith in
    moves_put (bytes_there _ _ _ c.if-s-end.false) (rw size at (behind_as (c.args.i + c.args.n) put.ends)) (rw size at put.holds)
