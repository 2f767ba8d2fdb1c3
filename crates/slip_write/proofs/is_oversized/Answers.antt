-- `slip_write::is_oversized` meets its contract. Assumes nothing.
use Rattle.slip_write.specs.Write.{oversized}
use borrow.Author.Tests.{lt-ltb, le-ltb}
use Rattle.slip_write.proofs.is_oversized.Goals as goal

pub returns-then-vertices-gt72057594037927936 : goal.returns-then-vertices-gt72057594037927936
unfolding oversized
returns-then-vertices-gt72057594037927936 c =
    let a = c.args in
    rw (lt-ltb _ a.vertices c.if-vertices-gt72057594037927936.true)

pub returns-then-triangles-gt72057594037927936 : goal.returns-then-triangles-gt72057594037927936
unfolding oversized
returns-then-triangles-gt72057594037927936 c =
    let a = c.args in
    rw (le-ltb _ a.vertices c.if-vertices-gt72057594037927936.false, lt-ltb _ a.triangles c.if-triangles-gt72057594037927936.true)

pub returns-then-flags-gt72057594037927936 : goal.returns-then-flags-gt72057594037927936
unfolding oversized
returns-then-flags-gt72057594037927936 c =
    let a = c.args in
    rw (le-ltb _ a.vertices c.if-vertices-gt72057594037927936.false, le-ltb _ a.triangles c.if-triangles-gt72057594037927936.false, lt-ltb _ a.flags c.if-flags-gt72057594037927936.true)

pub returns-then-kinds-gt72057594037927936 : goal.returns-then-kinds-gt72057594037927936
unfolding oversized
returns-then-kinds-gt72057594037927936 c =
    let a = c.args in
    rw (le-ltb _ a.vertices c.if-vertices-gt72057594037927936.false, le-ltb _ a.triangles c.if-triangles-gt72057594037927936.false, le-ltb _ a.flags c.if-flags-gt72057594037927936.false, lt-ltb _ a.kinds c.if-kinds-gt72057594037927936.true)

pub returns : goal.returns
unfolding oversized
returns c =
    let a = c.args in
    rw (le-ltb _ a.vertices c.if-vertices-gt72057594037927936.false, le-ltb _ a.triangles c.if-triangles-gt72057594037927936.false, le-ltb _ a.flags c.if-flags-gt72057594037927936.false, le-ltb _ a.kinds c.if-kinds-gt72057594037927936.false)
