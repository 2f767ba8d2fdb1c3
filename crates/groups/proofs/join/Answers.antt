-- `groups::join` meets its contract. Assumes nothing.
use Rattle.groups.specs.Groups.{joined_group}
use Prim.Native.Nat.{◌+◌, ◌*◌}
use borrow.Author.Tests.{lt-ltb, le-ltb, eq-eqb, ne_eqb}
use native.Mathlib.Omega.{arith}
use Rattle.std.proofs.lemmas.Result.{err_from_is_err_and}
use Rattle.groups.proofs.join.Goals as goal

pub returns-in_err-n : goal.returns-in_err-n
unfolding joined_group
returns-in_err-n c = let p = err_from_is_err_and c.from_residual.result c.from_residual.ensures.1 in rw (p.1, p.2, c.in_err-n.was)

pub returns-then-n-eq0 : goal.returns-then-n-eq0
unfolding joined_group
returns-then-n-eq0 c = rw (c.in_ok-n.was, eq-eqb _ _ c.if-n-eq0.true)

pub returns-then-n-gt33554431 : goal.returns-then-n-gt33554431
unfolding joined_group
returns-then-n-gt33554431 c =
    let n = c.in_ok-n.n in
    rw (c.in_ok-n.was, ne_eqb _ _ c.if-n-eq0.false, lt-ltb 4_294_967_295 (c.args.low + 128 * n) (omega (arith, c.if-n-gt33554431.true)))

pub returns : goal.returns
unfolding joined_group
returns c =
    let n = c.in_ok-n.n in
    rw (c.in_ok-n.was, ne_eqb _ _ c.if-n-eq0.false, le-ltb 4_294_967_295 (c.args.low + 128 * n) (omega (arith, c.if-n-gt33554431.false, c.requires)))
