-- `groups::read_groups` meets its contract. Assumes nothing.
use Prim.Native.Nat.{◌+◌}
use mathlib.Core.Path.{refl}
use native.Mathlib.Omega.{arith}
use Rattle.groups.proofs.Small.{one_more}
use Rattle.groups.proofs.read_groups.Goals as goal

pub returns : goal.returns
returns c =
    let s = c.args.s.now in
    let i = c.args.i in
    one_more s i (i + 1) 3 refl
    (one_more s (i + 1) (i + 2) 2 (omega arith)
    (one_more s (i + 2) (i + 3) 1 (omega arith) (one_more s (i + 3) (i + 4) 0 (omega arith) c.last_group-a.ensures c.group-b.ensures) c.group-c.ensures) c.group-d.ensures)
    c.group.ensures
