-- `trim::whole` meets its contract. Assumes nothing.
use native.Mathlib.Omega.{arith}
use Rattle.trim_visit.proofs.laws_of_better.Pairs.{pairs_push}
use Rattle.trim.proofs.whole.Goals as goal

pub returns : goal.returns
returns c =
    let a = c.args in
    pairs_push a.keep.now a.b0 a.b1 0 0 (omega arith) (omega (arith, c.requires))
