-- `groups::last_group` meets its contract. Assumes nothing.
use Rattle.groups.specs.Groups.{grouped, group_at}
use lib.ListN.{length, get_or}
use mathlib.Core.Path.{sym}
use borrow.Author.Tests.{lt-ltb, le-ltb}
use native.Mathlib.Omega.{arith}
use Rattle.groups.proofs.last_group.Goals as goal

pub returns-then-s-i : goal.returns-then-s-i
unfolding grouped group_at
returns-then-s-i c = let a = c.args in rw (le-ltb a.i (length a.s.now) c.if-s-i.true)

pub returns-then-b-lt128 : goal.returns-then-b-lt128
unfolding grouped group_at
returns-then-b-lt128 c =
    let a = c.args in
    let b = c.wide-b.ensures.0 in
    rw (lt-ltb a.i (length a.s.now) c.if-s-i.false, lt-ltb (get_or a.s.now a.i 0) 128 (omega (arith, b, c.if-b-lt128.true)), sym b)

pub returns : goal.returns
unfolding grouped group_at
returns c =
    let a = c.args in
    let b = c.wide-b.ensures.0 in
    rw (lt-ltb a.i (length a.s.now) c.if-s-i.false, le-ltb (get_or a.s.now a.i 0) 128 (omega (arith, b, c.if-b-lt128.false)))
