-- `slip::check_limit` meets its contract. Assumes nothing.
use Prim.Native.Nat.{◌+◌}
use native.Mathlib.Omega.{arith}
use borrow.Author.Tests.{lt-ltb, le-ltb}
use lib.ListN.{length}
use Rattle.slip.specs.Format.{after_pieces}
use Rattle.slip.proofs.check_limit.Goals as goal

pub returns-then-rest-lt8 : goal.returns-then-rest-lt8
unfolding after_pieces
returns-then-rest-lt8 c =
    let a = c.args in rw (lt-ltb (length a.s.now) (a.i + 8) (omega arith))

pub returns-then-rest-gt8 : goal.returns-then-rest-gt8
unfolding after_pieces
returns-then-rest-gt8 c =
    let a = c.args in rw (le-ltb (length a.s.now) (a.i + 8) (omega arith), lt-ltb (a.i + 8) (length a.s.now) (omega arith))

pub returns : goal.returns
unfolding after_pieces
returns c =
    let a = c.args in
    rw (le-ltb (length a.s.now) (a.i + 8) (omega arith), le-ltb (a.i + 8) (length a.s.now) (omega arith), c.number_at.ensures, c.number_at-2.ensures, c.number_at-3.ensures, c.double_at.ensures)
