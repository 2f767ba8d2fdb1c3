-- `cut_lists::push` meets its contract. Assumes nothing.
use Prim.Native.Nat.{◌*◌}
use native.Mathlib.Omega.{arith}
use lib.ListN.{length-set}
use Rattle.better.proofs.Pairs.{pairs_push}
use Rattle.cut_lists.proofs.Pushes.{pushed_full}
use Rattle.cut_lists.proofs.push.Goals as goal

pub returns-then-out-end-lt2 : goal.returns-then-out-end-lt2
returns-then-out-end-lt2 c =
    let a = c.args in
    pushed_full a.n a.out.now a.x0 a.x1 (omega arith)

pub bounds-out-end-2 : goal.bounds-out-end-2
bounds-out-end-2 c = simp length-set (omega arith)

pub returns : goal.returns
returns c =
    let a = c.args in
    (simp length-set (omega arith), pairs_push a.out.now a.x0 a.x1 a.n (2 * a.n) (omega arith) (omega arith))
