-- `root_vectors::print_difference` reads within the slice. Assumes nothing.
use mathlib.Core.Path.{◌≡◌}
use Prim.Native.Nat.{◌+◌, ◌*◌}
use native.Mathlib.Omega.{arith}
use Rattle.root_vectors.specs.Replay.{numbers_per_record}
use Rattle.root_vectors.proofs.Laws.{begins}
use Rattle.root_vectors.proofs.print_difference.Goals as goal

pub overflow_mul-i : goal.overflow_mul-i
overflow_mul-i g c =
    let at : (c.arity-n.result + 1) * c.args.k ≡ numbers_per_record c.args.f * c.args.k = begins c.args.f c.args.k c.arity-n.ensures in
    omega (arith, at)

pub print_words-requires : goal.print_words-requires
print_words-requires g c =
    let at : (c.arity-n.result + 1) * c.args.k ≡ numbers_per_record c.args.f * c.args.k = begins c.args.f c.args.k c.arity-n.ensures in
    omega (arith, at, c.arity-n.ensures)

pub answer-requires : goal.answer-requires
answer-requires g c =
    let at : (c.arity-n.result + 1) * c.args.k ≡ numbers_per_record c.args.f * c.args.k = begins c.args.f c.args.k c.arity-n.ensures in
    omega (arith, at)
