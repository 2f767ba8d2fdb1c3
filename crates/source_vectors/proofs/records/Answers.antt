-- `source_vectors::records` meets its contract. Assumes nothing.
use mathlib.Core.Path.{ap}
use Prim.Native.Nat.{ℕ, ◌/◌}
use native.Mathlib.Nat.{mul-div-le}
use native.Mathlib.Omega.{arith}
use lib.ListN.{length}
use Rattle.source_vectors.specs.Replay.{size, leaf_records}
use Rattle.source_vectors.proofs.Laws.{size_pos}
use Rattle.source_vectors.proofs.records.Goals as goal

pub nonzero_div-result : goal.nonzero_div-result
nonzero_div-result c = omega (arith, c.size.ensures, size_pos c.args.f)

pub returns : goal.returns
unfolding leaf_records
returns c =
    let e = ap (λ (z : ℕ). length c.args.s.now / z) c.size.ensures in
    (e, rw e (mul-div-le (length c.args.s.now) (size c.args.f)))
