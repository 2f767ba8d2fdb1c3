-- `root_vectors::records` meets its contract. Assumes nothing.
use mathlib.Core.Path.{ap}
use Prim.Native.Nat.{ℕ, ◌+◌, ◌*◌, ◌/◌}
use native.Mathlib.Omega.{arith}
use lib.ListN.{length}
use Rattle.root_vectors.specs.Replay.{numbers_per_record, records_in}
use Rattle.root_vectors.proofs.Laws.{arity_small, records_fit}
use Rattle.root_vectors.proofs.records.Goals as goal

pub overflow_add-result : goal.overflow_add-result
overflow_add-result c = omega (arith, c.arity.ensures, arity_small c.args.f)

pub overflow_mul-result : goal.overflow_mul-result
overflow_mul-result c = omega (arith, c.arity.ensures, arity_small c.args.f)

pub nonzero_div-result : goal.nonzero_div-result
nonzero_div-result c = omega arith

pub returns : goal.returns
unfolding records_in
returns c =
    let e = ap (λ (n : ℕ). length c.args.s.now / (8 * (n + 1))) c.arity.ensures in
    (e, rw e (records_fit (numbers_per_record c.args.f) (length c.args.s.now)))
